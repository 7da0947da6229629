use Rattle.std.proofs.Common.{ℕ, ◌+◌, ◌*◌, List, [], rules}
use Rattle.std.proofs.lemmas.List.FromFn.{fill_by_all}
use Rattle.wire.specs.Parts.{part}
use Rattle.lms.proofs.Made.{made_at}
use Rattle.lms.proofs.layout.path_of.Goals as goal

pub returns : goal.returns
returns c =
    let made = c.from_fn.ensures.items in
    let want : ℕ → List ℕ = λ i. part c.args.signature.now (1132 + 32 * i) 32 in
    fill_by_all want _ 10 [] made.long (made_at _ _ want _ [] (λ i y q k. search rules) 10 made)
