-- The payments that are left of a run's.
use Rattle.std.specs.Prelude.{List, ◌++◌, option_to_list}
use Rattle.payments.specs.declared.lists.Payment.{Payment}
use Rattle.bank.specs.declared.paid.Payments.{Payments}
use Rattle.bank.specs.Collected.{collected}

abbrev pub left : Payments → List Payment
left p = option_to_list p.merchant ++ collected p.commands.now p.lines.now
