use Rattle.std.proofs.Common.{◌≡◌, sym, rules, arith, Err}
use borrow.Author.Tests.{ltb-true, ltb-false}
use Rattle.machine.specs.declared.numbers.Refusal.{Refusal}
use Rattle.machine.proofs.Laws.{setup_limits, sound_context}
use Rattle.command.proofs.SoundBook.{sound_at}
use Rattle.command.proofs.Stepping.{least, far_step, channel_step, refused_step}
use Rattle.command.proofs.steps.on_channel.Goals as goal

pub u16_at-n-requires : goal.u16_at-n-requires
u16_at-n-requires c = omega (arith, least c.args.op, c.requires.sized)

pub returns-in_err-ensure : goal.returns-in_err-ensure
returns-in_err-ensure c =
    let r = c.requires in
    let q : c.from_residual.result ≡ Err Refusal.Channel = search rules in
    let f = ltb-false _ _ (rw c.u16_at-n.ensures at c.in_err-ensure.ensures.0) in
    rw q (far_step _ _ c.args.book.now c.args.command.now r.steady c.args.op (sym r.named) r.sized r.other f)

pub invariant_of-sound : goal.invariant_of-sound
invariant_of-sound c = record { sound = sound_at c.args.book.now c.u16_at-n.result c.requires.steady }

pub rule-requires : goal.rule-requires
rule-requires c = (c.requires.sized, (sound_context c.args.book.now c.requires.steady).1)

pub returns-in_err-accepted : goal.returns-in_err-accepted
returns-in_err-accepted c =
    let r = c.requires in
    let q : c.from_residual-in_err-accepted.result ≡ Err c.in_err-accepted.field-0.0 = search rules in
    let m = ltb-true _ _ (rw c.u16_at-n.ensures at c.in_ok-ensure.ensures) in
    let e = rw (c.in_err-accepted.was, c.u16_at-n.ensures, ← r.named) at c.rule.ensures in
    rw q (refused_step _ _ c.args.book.now c.args.command.now r.steady c.args.op (sym r.named) r.sized r.other m _ _ e)

pub charged-requires : goal.charged-requires
charged-requires c = (setup_limits c.args.book.now.setup (sound_context c.args.book.now c.requires.steady).0).1

pub returns : goal.returns
returns c =
    let r = c.requires in
    let m = ltb-true _ _ (rw c.u16_at-n.ensures at c.in_ok-ensure.ensures) in
    let e = rw (c.in_ok-accepted.was, c.u16_at-n.ensures, ← r.named) at c.rule.ensures in
    rw (c.charged.ensures, c.paid-paid.ensures, c.u16_at-n.ensures) (channel_step _ _ c.args.book.now c.args.command.now r.steady c.args.op (sym r.named) r.sized r.other m _ e)
