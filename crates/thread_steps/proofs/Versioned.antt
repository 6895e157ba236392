-- The versions of blocks, one after the other.
use Rattle.std.proofs.Common.{◌≡◌, ℕ, ◌+◌, ◌<◌, List, [], ◌∷◌, ◌++◌, get_or, length, take, sym, ap, ◌∙◌}
use Rattle.std.proofs.lemmas.List.{map_push, take_more}
use Rattle.std.proofs.lemmas.List.Elements.{All-push}
use Rattle.base_types.specs.declared.layout.Layout.{Layout}
use Rattle.rac_disk.specs.Content.{Content}
use Rattle.thread_steps.specs.declared.found.BlockVersion.{BlockVersion}
use Rattle.thread_steps.specs.Versions.{HasVersion, HaveVersions}

-- one block more
pub one_version_more : (layout : Layout) (blocks : List ℕ) (k block version : ℕ) (old new : List BlockVersion) (it : Content) → k < length blocks → block ≡ get_or blocks k block → new ≡ old ++ record { block = block; version = version } ∷ []
    → HaveVersions layout (take k blocks) old it → HasVersion layout block version it → HaveVersions layout (take (k + 1) blocks) new it
one_version_more layout blocks k block version old new it within is pushed have has =
    let one : BlockVersion = record { block = block; version = version } in
    rw pushed (record {
      blocks_are =
          map_push (λ (one : BlockVersion). one.block) old one ∙ ap (λ (l : List ℕ). l ++ block ∷ []) have.blocks_are
          ∙ ap (λ (b : ℕ). take k blocks ++ b ∷ []) is ∙ sym (take_more blocks k block within);
      each = All-push (λ (one : BlockVersion). HasVersion layout one.block one.version it) old one have.each has;
    })
