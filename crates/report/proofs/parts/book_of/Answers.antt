use Rattle.std.proofs.Common.{◌∙◌, ap}
use Rattle.machine.specs.Opening.{Opened, blank_book}
use Rattle.report.proofs.parts.book_of.Goals as goal

pub returns-in-Ok : goal.returns-in-Ok
returns-in-Ok c = ap (λ (o : Opened). o.book) (c.in-Ok.ensures blank_book)

pub returns-in-Err : goal.returns-in-Err
returns-in-Err c = c.blank.ensures ∙ ap (λ (o : Opened). o.book) (c.in-Err.ensures blank_book)
