use Rattle.std.proofs.Common.{◌≡◌, ◌∙◌, sym, ap, rules, arith, ℕ, Err, Option}
use Rattle.std.specs.Option.{unwrap_or}
use borrow.Author.Tests.{eqb-true}
use Rattle.machine.specs.Format.{opcode, size}
use Rattle.machine.specs.Outcomes.{opcode_number}
use Rattle.machine.specs.declared.numbers.Refusal.{Refusal}
use Rattle.command.proofs.Stepping.{first_byte, unsound, unnamed, unsized, in_range, clock_step}
use Rattle.command.proofs.steps.carried.Goals as goal

pub returns-in_err-ensure : goal.returns-in_err-ensure
returns-in_err-ensure c =
    let q : c.from_residual.result ≡ Err Refusal.Book = search rules in
    rw q (unsound _ _ c.args.book.now c.args.command.now (rw c.sound.ensures at c.in_err-ensure.ensures.0))

pub returns-in_err-op : goal.returns-in_err-op
returns-in_err-op c =
    let q : c.from_residual-in_err-op.result ≡ Err Refusal.Opcode = search rules in
    let o = c.unwrap_or.ensures ∙ ap (λ (x : Option ℕ). unwrap_or x 0) (c.copied.ensures ∙ c.first.ensures.value) ∙ first_byte c.args.command.now in
    rw q (unnamed _ _ c.args.book.now c.args.command.now (sym c.sound.ensures ∙ c.in_ok-ensure.ensures) (rw o at c.in_err-op.ensures.1))

pub returns-in_err-ensure-2 : goal.returns-in_err-ensure-2
returns-in_err-ensure-2 c =
    let q : c.from_residual-in_err-ensure-2.result ≡ Err Refusal.Length = search rules in
    let first = c.unwrap_or.ensures ∙ ap (λ (x : Option ℕ). unwrap_or x 0) (c.copied.ensures ∙ c.first.ensures.value) ∙ first_byte c.args.command.now in
    let o : opcode_number c.in_ok-op.op ≡ opcode c.args.command.now = c.in_ok-op.ensures ∙ first in
    rw q (unsized _ _ c.args.book.now c.args.command.now (sym c.sound.ensures ∙ c.in_ok-ensure.ensures) (rw o at (in_range c.in_ok-op.op)) (rw (c.length_of.ensures, o) at c.in_err-ensure-2.ensures.0))

pub u64_at-requires : goal.u64_at-requires
unfolding size
u64_at-requires c =
    let l = eqb-true _ _ c.in_ok-ensure-2.ensures in
    omega (arith, l, rw c.in-Clock.is at c.length_of.ensures)

pub returns-in_err-set_clock-in-Clock : goal.returns-in_err-set_clock-in-Clock
returns-in_err-set_clock-in-Clock c =
    let op = c.in_ok-op.op in
    let q : c.from_residual-in_err-set_clock-in-Clock.result ≡ Err c.in_err-set_clock-in-Clock.field-0.0 = search rules in
    let first = c.unwrap_or.ensures ∙ ap (λ (x : Option ℕ). unwrap_or x 0) (c.copied.ensures ∙ c.first.ensures.value) ∙ first_byte c.args.command.now in
    let e = rw (c.in_err-set_clock-in-Clock.was, c.u64_at.ensures) at c.set_clock.ensures in
    rw q (clock_step _ _ c.args.book.now c.args.command.now (sym c.sound.ensures ∙ c.in_ok-ensure.ensures) op (c.in_ok-op.ensures ∙ first) (eqb-true _ _ c.in_ok-ensure-2.ensures ∙ c.length_of.ensures) (ap opcode_number c.in-Clock.is) _ e)

pub returns-in_ok-set_clock-in-Clock : goal.returns-in_ok-set_clock-in-Clock
returns-in_ok-set_clock-in-Clock c =
    let op = c.in_ok-op.op in
    let first = c.unwrap_or.ensures ∙ ap (λ (x : Option ℕ). unwrap_or x 0) (c.copied.ensures ∙ c.first.ensures.value) ∙ first_byte c.args.command.now in
    let e = rw (c.in_ok-set_clock-in-Clock.was, c.u64_at.ensures) at c.set_clock.ensures in
    rw c.paid.ensures (clock_step _ _ c.args.book.now c.args.command.now (sym c.sound.ensures ∙ c.in_ok-ensure.ensures) op (c.in_ok-op.ensures ∙ first) (eqb-true _ _ c.in_ok-ensure-2.ensures ∙ c.length_of.ensures) (ap opcode_number c.in-Clock.is) _ e)
