use Rattle.std.proofs.Common.{◌≡◌, length, replicate, refl, rules}
use Rattle.checks.proofs.Message.{message_law}
use Rattle.checks.proofs.signatures.Signed.message.Goals as goal

pub returns : goal.returns
returns c =
    let h : length c.args.self.id ≡ 16 = search rules in
    message_law (replicate 67 0) c.args.self.id c.args.self.command.now _ _ _ c.args.self.end
    c.copy_into.ensures
    c.copy_into-2.ensures c.copy_into-3.ensures
    refl h c.args.self.within.0 c.args.self.within.1 c.args.self.within.2
