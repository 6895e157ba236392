-- A directory is made of the reports, entry by entry.
use Rattle.std.proofs.Common.{◌≡◌, ◌∙◌, ℕ, ◌+◌, ◌*◌, ◌/◌, ◌%◌, ◌<◌, Bool, true, false, cond, List, refl, ap, arith, eqb}
use Rattle.std.specs.Prelude.{map, Option, Some, None, slice_index, slice_index_or, slice_get}
use Rattle.std.proofs.lemmas.Nat.{div-add-mod'}
use Prim.Native.Nat.{zero, suc}
use Rattle.wire_net.specs.declared.report.Report.{Report}
use Rattle.wire_net.specs.Masters.{all_buckets, master_of}
use Rattle.resource_dir.specs.Directory.{entry_in}
use Rattle.resource_dir.specs.Rebuilt.{rebuilt, rebuilt_bucket, rebuilt_at}
use Rattle.protocol_ties.specs.Reports.{DirectoryIsMadeByEntries}

module _ {A : Type 0} (f : ℕ → Option A) where
  bucket-at : (k : ℕ) → k < 16 → slice_index_or (map f all_buckets) k None ≡ f k
  bucket-at zero lt = refl
  bucket-at (suc zero) lt = refl
  bucket-at (suc (suc zero)) lt = refl
  bucket-at (suc (suc (suc zero))) lt = refl
  bucket-at (suc (suc (suc (suc zero)))) lt = refl
  bucket-at (suc (suc (suc (suc (suc zero))))) lt = refl
  bucket-at (suc (suc (suc (suc (suc (suc zero)))))) lt = refl
  bucket-at (suc (suc (suc (suc (suc (suc (suc zero))))))) lt = refl
  bucket-at (suc (suc (suc (suc (suc (suc (suc (suc zero)))))))) lt = refl
  bucket-at (suc (suc (suc (suc (suc (suc (suc (suc (suc zero))))))))) lt = refl
  bucket-at (suc (suc (suc (suc (suc (suc (suc (suc (suc (suc zero)))))))))) lt = refl
  bucket-at (suc (suc (suc (suc (suc (suc (suc (suc (suc (suc (suc zero))))))))))) lt = refl
  bucket-at (suc (suc (suc (suc (suc (suc (suc (suc (suc (suc (suc (suc zero)))))))))))) lt = refl
  bucket-at (suc (suc (suc (suc (suc (suc (suc (suc (suc (suc (suc (suc (suc zero))))))))))))) lt = refl
  bucket-at (suc (suc (suc (suc (suc (suc (suc (suc (suc (suc (suc (suc (suc (suc zero)))))))))))))) lt = refl
  bucket-at (suc (suc (suc (suc (suc (suc (suc (suc (suc (suc (suc (suc (suc (suc (suc zero))))))))))))))) lt = refl
  bucket-at (suc (suc (suc (suc (suc (suc (suc (suc (suc (suc (suc (suc (suc (suc (suc (suc k)))))))))))))))) lt = absurd (omega (arith, lt))

entry-at : (bucket : ℕ) (reports : List (ℕ × Report)) (place : ℕ) → place < 4 → slice_get (rebuilt_bucket bucket reports) place ≡ Some (rebuilt (place * 16 + bucket) reports)
entry-at bucket reports zero lt = ap (λ n. Some (rebuilt n reports)) (omega arith)
entry-at bucket reports (suc zero) lt = ap (λ n. Some (rebuilt n reports)) (omega arith)
entry-at bucket reports (suc (suc zero)) lt = ap (λ n. Some (rebuilt n reports)) (omega arith)
entry-at bucket reports (suc (suc (suc zero))) lt = ap (λ n. Some (rebuilt n reports)) (omega arith)
entry-at bucket reports (suc (suc (suc (suc n)))) lt = absurd (omega (arith, lt))

pub directory-is-made-by-entries : DirectoryIsMadeByEntries
directory-is-made-by-entries me masters reports b lt =
    ap (λ o. entry_in o (b / 16)) (bucket-at (rebuilt_at me masters reports) (b % 16) (omega arith)) ∙ go (eqb (master_of masters b) me) refl
  where
    same : eqb (master_of masters (b % 16)) me ≡ eqb (master_of masters b) me
    same = ap (λ k. eqb (slice_index masters.by_bucket k) me) (omega arith)

    go : (t : Bool) → eqb (master_of masters b) me ≡ t → entry_in (rebuilt_at me masters reports (b % 16)) (b / 16) ≡ cond t (Some (rebuilt b reports)) None
    go true is = ap (λ t. entry_in (cond t (Some (rebuilt_bucket (b % 16) reports)) None) (b / 16)) (same ∙ is)
        ∙ entry-at (b % 16) reports (b / 16) (omega (arith, lt)) ∙ ap (λ n. Some (rebuilt n reports)) (div-add-mod' b 16)
    go false is = ap (λ t. entry_in (cond t (Some (rebuilt_bucket (b % 16) reports)) None) (b / 16)) (same ∙ is)
