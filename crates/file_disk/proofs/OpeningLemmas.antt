-- One block more is read.
use Rattle.std.proofs.Common.{◌≡◌, ◌<◌, ◌+◌, ◌*◌, ℕ, List, take, drop, length, set, Option, None, Some, IfSome, subst, arith}
use Rattle.std.proofs.lemmas.Grind.{common_steps}
use Rattle.rac_disk.specs.Content.{Content, with_block}
use Rattle.file_disk.specs.Opening.{HasBlocks}

HasBlocks-more : (count : ℕ) (bytes : List ℕ) (blocks : List (List ℕ)) → count < length blocks → HasBlocks count bytes blocks → HasBlocks (count + 1) bytes (set blocks count (take 512 (drop (count * 512) bytes)))
HasBlocks-more count bytes blocks inside has = λ block below. grind (arith, common_steps, has)

pub one_block_more : (holds told : Option (List ℕ)) (count : ℕ) (old new : Content) → told ≡ holds → count < length old.blocks → IfSome holds (λ bytes. HasBlocks count bytes old.blocks) → IfSome told (λ bytes. new ≡ with_block old count (take 512 (drop (count * 512) bytes))) → IfSome holds (λ bytes. HasBlocks (count + 1) bytes new.blocks)
one_block_more None told count old new same inside has is = tt
one_block_more (Some bytes) told count old new same inside has is =
    let put : new ≡ with_block old count (take 512 (drop (count * 512) bytes)) = subst (λ (t : Option (List ℕ)). IfSome t (λ bytes. new ≡ with_block old count (take 512 (drop (count * 512) bytes)))) same is in
    rw put (HasBlocks-more count bytes old.blocks inside has)
