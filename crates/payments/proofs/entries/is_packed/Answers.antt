use Rattle.std.proofs.Common.{rules, tests, true, Bool, ℕ, ◌&&◌}
use Rattle.std.proofs.lemmas.Iterator.{YieldsList-from_slice}
use Rattle.std.proofs.lemmas.Iterator.Consumers.{fold_from_yields_List}
use Rattle.payments.proofs.EntryBytes.{pairs, both_digits, is_packed_by}
use Rattle.payments.proofs.entries.is_packed.Goals as goal

pub returns : goal.returns
returns c =
    let e = c.args.e.now in
    is_packed_by e c.fold.result (search rules)
    (fold_from_yields_List _ (λ (ok : Bool) (b : ℕ). ok && both_digits b) true c.fold.result c.fold.ensures.ran (YieldsList-from_slice (pairs e) cc) (λ a x b q k. search (rules, tests)))
