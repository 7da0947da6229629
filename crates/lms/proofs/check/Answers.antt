-- The limit of the message, the forms of key and signature, and then the check itself.
use Rattle.std.proofs.Common.{sym, ◌∙◌}
use borrow.Author.Tests.{lt-leb}
use Rattle.lms.specs.Check.{check_of}
use Rattle.lms.proofs.Forms.{inside, sized, other_key, other_signature, checked_bad, checked_good}
use Rattle.lms.proofs.check.Goals as goal

pub returns-then-message-gt1024-clause-answer : goal.returns-then-message-gt1024-clause-answer
unfolding check_of
returns-then-message-gt1024-clause-answer c = simp (lt-leb _ _ c.if-message-gt1024.true)

pub verified-requires : goal.verified-requires
verified-requires c = (c.if-message-gt1024.false, inside _ _ (sym c.right_types.ensures ∙ c.if-right_types.true))

pub returns-in-Some-Some-clause-answer : goal.returns-in-Some-Some-clause-answer
returns-in-Some-Some-clause-answer c =
    let k = c.in-Some-Some.ensures.cases in
    let s = c.in-Some-Some.ensures'.cases in
    let types = rw (k.same, s.same) at (sym c.right_types.ensures ∙ c.if-right_types.true) in
    rw (k.same, s.same) at c.verified.ensures
    ∙ checked_good _ _ _ c.if-message-gt1024.false (sized _ _ k.long s.long ∙ types)

pub returns-in_default-clause-answer : goal.returns-in_default-clause-answer
returns-in_default-clause-answer c =
    let k = c.in-Some-Some.ensures.cases in
    let s = c.in-Some-Some.ensures'.cases in
    let types = rw (k.same, s.same) at (sym c.right_types.ensures ∙ c.if-right_types.false) in
    checked_bad _ _ _ c.if-message-gt1024.false (sized _ _ k.long s.long ∙ types)

pub returns-in_default-2-clause-answer : goal.returns-in_default-2-clause-answer
returns-in_default-2-clause-answer c = checked_bad _ _ _ c.if-message-gt1024.false (other_signature _ _ c.in_default.ensures'.cases)

pub returns-in_default-3-clause-answer : goal.returns-in_default-3-clause-answer
returns-in_default-3-clause-answer c = checked_bad _ _ _ c.if-message-gt1024.false (other_key _ _ c.in_default.ensures.cases)
