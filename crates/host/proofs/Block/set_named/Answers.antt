-- Each set name has its block beside it. Assumes nothing.
use Rattle.std.proofs.Common.{sym, ◌∙◌}
use Rattle.host.specs.Names.{set_of}
use Rattle.host.proofs.Numbered.{blocks_by}
use Rattle.host.proofs.Block.set_named.Goals as goal

pub returns : goal.returns
returns c = c.value_of.ensures ∙ sym (blocks_by (λ b. (set_of b).name) c.args.name)
