use Rattle.std.proofs.Common.{◌≡◌, ap, ◌∙◌, arith}
use Rattle.lms.specs.OneTime.{deficit}
use Rattle.lms.proofs.Laws.{digits_written}
use Rattle.lms.proofs.one_time.digits_of.Goals as goal

pub returns : goal.returns
returns c =
    let q = c.args.hash in
    let sum : c.deficit-checksum.result ≡ deficit q 32 = c.deficit-checksum.ensures.sum ∙ ap (deficit q) (omega arith) in
    digits_written q c.copy_into.new.dst c.deficit-checksum.result (omega arith) c.copy_into.ensures sum (omega arith)
