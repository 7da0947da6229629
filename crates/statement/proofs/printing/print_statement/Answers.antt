use Rattle.std.proofs.Common.{[], subst, arith}
use Rattle.std.specs.Io.KnownBytes.{Appends}
use Rattle.std.proofs.KnownBytes.{Appends-nil, Appends-trans}
use Rattle.report.proofs.Ahead.{begun_ahead, refused_said, next_ahead, all_said}
use Rattle.statement.proofs.printing.print_statement.Goals as goal

pub returns-in-Err : goal.returns-in-Err
returns-in-Err g c = rw (← refused_said _ c.in-Err.refused c.in-Err.ensures) c.print_refusal.ensures

pub loop-reached-init : goal.loop-reached-init
loop-reached-init g c = ([], begun_ahead _ _ c.in-Ok.ensures, Appends-nil _)

pub loop-reached-smaller : goal.loop-reached-smaller
loop-reached-smaller g c =
    let (said, ahead, appended) = c.loop-reached.invariant in
    let next = next_ahead _ said _ ahead _ c.in-Continue.reached c.next_part-part.ensures c.in-Continue.is in
    omega (arith, next.1, next.0.place)

pub loop-reached-preserved : goal.loop-reached-preserved
loop-reached-preserved g c =
    let (said, ahead, appended) = c.loop-reached.invariant in
    let next = next_ahead _ said _ ahead _ c.in-Continue.reached c.next_part-part.ensures c.in-Continue.is in
    (_, next.0, Appends-trans _ _ _ said _ appended (subst (Appends _ _) c.as_slice.ensures.value c.in_ok-write_all.ensures.bytes))

pub returns-in-Break : goal.returns-in-Break
returns-in-Break g c =
    let (said, ahead, appended) = c.loop-reached.invariant in
    let e = all_said _ said _ ahead _ _ c.next_part-part.ensures c.in-Break.is in
    subst (Appends _ _) e (Appends-trans _ _ _ said _ appended (subst (Appends _ _) c.as_slice.ensures.value c.in_ok-write_all.ensures.bytes))
