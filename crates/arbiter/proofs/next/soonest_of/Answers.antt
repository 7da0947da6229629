use Rattle.std.proofs.Common.{List, arith, drop, drop-cons, drop_of_length-le, false, get_or, length, rules, suc, zero, ℕ, ◌-◌, ◌<◌, ◌∙◌, ◌≡◌, ◌≤◌}
use native.Mathlib.Numerals.{unary_clauses}
use Rattle.machine.specs.Book.{cents, no_channel, seconds}
use Rattle.machine.specs.Due.{sooner, soonest}
use Rattle.machine.specs.declared.state.Channel.{Channel}
use Rattle.arbiter.proofs.next.soonest_of.Goals as goal

soonest-end : (l : List Channel) (n : ℕ) → length l ≤ n → record { some = false; number = 0; deadline = seconds 0; held = cents 0 } ≡ soonest n (drop n l)
unfolding soonest
soonest-end l n h = rw (drop_of_length-le l h)

soonest-more : (l : List Channel) (i : ℕ) → 0 < i → i ≤ length l → sooner (i - 1) (get_or l (i - 1) no_channel) (soonest i (drop i l)) ≡ soonest (i - 1) (drop (i - 1) l)
unfolding soonest
soonest-more l zero p h = let z : ⊥ = omega arith in absurd z
soonest-more l (suc j) p h = simp unary_clauses (rw (drop-cons l j no_channel (omega arith)))

pub loop-n-init : goal.loop-n-init
loop-n-init c =
    let h : length c.args.channels.now ≡ 64 = search rules in
    soonest-end c.args.channels.now 64 (omega arith)

pub loop-n-preserved : goal.loop-n-preserved
loop-n-preserved c =
    let h : length c.args.channels.now ≡ 64 = search rules in
    c.sooner_of-best.ensures ∙ rw (c.loop-n.invariant, c.from.ensures) (soonest-more c.args.channels.now c.loop-n.n c.loop-n-test.true (omega (arith, c.loop-n.auto.n, h)))
