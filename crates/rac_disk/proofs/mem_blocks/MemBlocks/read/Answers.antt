use Rattle.std.proofs.Common.{◌≡◌, [], arith, get_or, take, ◌∙◌, sym}
use Rattle.std.proofs.lemmas.List.{get_or-take}
use Rattle.std.proofs.lemmas.Grind.{common_steps}
use Rattle.rac_disk.proofs.mem_blocks.MemBlocks.read.Goals as goal

pub returns : goal.returns
returns c =
    let near : get_or (take 200 c.self.inside.blocks.items) c.args.block [] ≡ get_or c.self.inside.blocks.items c.args.block [] = get_or-take 200 c.self.inside.blocks.items c.args.block [] c.requires in
    rw (← c.self.view_is) (grind (arith, common_steps) ∙ sym near)
