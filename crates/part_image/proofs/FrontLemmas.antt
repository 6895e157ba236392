-- Which field of a front is the first wrong one.
use Rattle.std.proofs.Common.{◌≡◌, ℕ, zero, suc, ◌^◌, ◌<◌, ◌≤◌, ◌↔◌, List, length, drop, slice_index, refl, sym, ap, subst, arith}
use Rattle.base_types.specs.Bytes.{number_at}
use Rattle.part_image.specs.declared.front.BlockFront.{BlockFront}
use Rattle.part_image.specs.declared.front.BlockKind.{BlockKind}
use Rattle.part_image.specs.declared.front.BlockKind.TheVariants.{Data, Header, Undo}
use Rattle.part_image.specs.Cells.{Begins, IsFirstWrong, first_fields, spelled}
use Rattle.part_image.specs.Front.{HasNext, HasScn, HasSegment, HasSegmentIn, IsFront, front_fields, kind_number}
use Rattle.part_image.proofs.CellLemmas.{AllStand, all_stand_where_spelled, fewer_fit, fit_where_all_stand, spelled_where_all_stand}
use Rattle.part_image.proofs.Numbers.{IsBytes, IsBytes-drop, big_from-below}

-- the next sequence number of a block that was never touched
abbrev pub some_next : BlockKind → ℕ
some_next Data = 0
some_next Header = 1
some_next Undo = 0

has_some_next : (kind : BlockKind) → HasNext kind (some_next kind)
has_some_next Data = refl
has_some_next Header = omega arith
has_some_next Undo = refl

some_next_fits : (kind : BlockKind) → some_next kind < 256 ^ 8
some_next_fits Data = omega arith
some_next_fits Header = omega arith
some_next_fits Undo = omega arith

kind_fits : (kind : BlockKind) → kind_number kind < 256
kind_fits Data = omega arith
kind_fits Header = omega arith
kind_fits Undo = omega arith

has_zero_segment : (kind : BlockKind) → HasSegment kind 0
has_zero_segment Data = refl
has_zero_segment Header = tt
has_zero_segment Undo = tt

-- the front of a block that was never touched
abbrev pub fresh : BlockKind → ℕ → ℕ → BlockFront
fresh kind number seg = record { number = number; seg = seg; version = 0; scn = 0; next = some_next kind }

fresh_is : (kind : BlockKind) (number seg : ℕ) → number < 256 ^ 2 → seg < 256 → HasSegment kind seg → IsFront kind (fresh kind number seg)
fresh_is kind number seg small small_seg has = record {
  fits = (kind_fits kind, (omega arith, (small, (small_seg, (tt, (omega arith, (omega arith, (some_next_fits kind, tt))))))));
  segment = has;
  scn = (λ h. refl, λ h. refl);
  next = has_some_next kind;
}

pub wrong_kind : (kind : BlockKind) (bytes : List ℕ) → (slice_index bytes 0 ≡ kind_number kind → ⊥) → IsFirstWrong (IsFront kind) (front_fields kind) bytes 1
wrong_kind kind bytes differs = record {
  right_before = (fresh kind 0 0, fresh_is kind 0 0 (omega arith) (omega arith) (has_zero_segment kind), refl);
  wrong = λ f is begins. differs (all_stand_where_spelled bytes 0 (first_fields 1 (front_fields kind f)) (fewer_fit 1 7 (front_fields kind f) (omega arith) is.fits) begins).0;
}

pub wrong_format : (kind : BlockKind) (bytes : List ℕ) → IsBytes bytes → 32 ≤ length bytes → slice_index bytes 0 ≡ kind_number kind → (slice_index bytes 1 ≡ 1 → ⊥) → IsFirstWrong (IsFront kind) (front_fields kind) bytes 2
wrong_format kind bytes fits long first differs = record {
  right_before = (fresh kind 0 0, fresh_is kind 0 0 (omega arith) (omega arith) (has_zero_segment kind), spelled_where_all_stand bytes 0 (first_fields 1 (front_fields kind (fresh kind 0 0))) fits (omega arith) (first, tt));
  wrong = λ f is begins. differs (all_stand_where_spelled bytes 0 (first_fields 2 (front_fields kind f)) (fewer_fit 2 7 (front_fields kind f) (omega arith) is.fits) begins).1.0;
}

pub wrong_segment : (kind : BlockKind) (bytes : List ℕ) → IsBytes bytes → 32 ≤ length bytes → slice_index bytes 0 ≡ kind_number kind → slice_index bytes 1 ≡ 1
    → (HasSegmentIn kind bytes → ⊥) → IsFirstWrong (IsFront kind) (front_fields kind) bytes 4
wrong_segment kind bytes fits long first second differs =
    let number = number_at 2 bytes 2 in
    let small : number < 256 ^ 2 = big_from-below 0 2 (drop 2 bytes) (IsBytes-drop 2 bytes fits) in
    record {
      right_before = (fresh kind number 0, fresh_is kind number 0 small (omega arith) (has_zero_segment kind), spelled_where_all_stand bytes 0 (first_fields 3 (front_fields kind (fresh kind number 0))) fits (omega arith) (first, (second, (refl, tt))));
      wrong = λ f is begins.
          let all = all_stand_where_spelled bytes 0 (first_fields 4 (front_fields kind f)) (fewer_fit 4 7 (front_fields kind f) (omega arith) is.fits) begins in
          differs (all.1.1.1.1.0, subst (HasSegment kind) (sym all.1.1.1.0) is.segment);
    }

-- an SCN that goes with a version
abbrev pub some_scn : ℕ → ℕ
some_scn zero = 0
some_scn (suc version) = 1

some_scn_goes : (version : ℕ) → (version ≡ 0) ↔ (some_scn version ≡ 0)
some_scn_goes zero = (λ h. refl, λ h. refl)
some_scn_goes (suc version) = (λ h. absurd cc, λ h. absurd cc)

some_scn_fits : (version : ℕ) → some_scn version < 256 ^ 8
some_scn_fits zero = omega arith
some_scn_fits (suc version) = omega arith

pub wrong_scn : (kind : BlockKind) (bytes : List ℕ) → IsBytes bytes → 32 ≤ length bytes → slice_index bytes 0 ≡ kind_number kind → slice_index bytes 1 ≡ 1
    → HasSegmentIn kind bytes → (((number_at 8 bytes 8 ≡ 0) ↔ (number_at 8 bytes 16 ≡ 0)) → ⊥) → IsFirstWrong (IsFront kind) (front_fields kind) bytes 6
wrong_scn kind bytes fits long first second seg differs =
    let version = number_at 8 bytes 8 in
    let f : BlockFront = record { number = number_at 2 bytes 2; seg = slice_index bytes 4; version = version; scn = some_scn version; next = some_next kind } in
    let is : IsFront kind f = record {
      fits = (kind_fits kind, (omega arith, (big_from-below 0 2 (drop 2 bytes) (IsBytes-drop 2 bytes fits), (fits 4, (tt, (big_from-below 0 8 (drop 8 bytes) (IsBytes-drop 8 bytes fits), (some_scn_fits version, (some_next_fits kind, tt))))))));
      segment = seg.1;
      scn = some_scn_goes version;
      next = has_some_next kind;
    } in
    record {
      right_before = (f, is, spelled_where_all_stand bytes 0 (first_fields 5 (front_fields kind f)) fits (omega arith) (first, (second, (refl, (refl, (seg.0, (refl, tt)))))));
      wrong = λ g is_g begins.
          let all = all_stand_where_spelled bytes 0 (first_fields 6 (front_fields kind g)) (fewer_fit 6 7 (front_fields kind g) (omega arith) is_g.fits) begins in
          differs (rw (all.1.1.1.1.1.0, all.1.1.1.1.1.1.0) is_g.scn);
    }

pub wrong_next : (kind : BlockKind) (bytes : List ℕ) → IsBytes bytes → 32 ≤ length bytes → slice_index bytes 0 ≡ kind_number kind → slice_index bytes 1 ≡ 1
    → HasSegmentIn kind bytes → ((number_at 8 bytes 8 ≡ 0) ↔ (number_at 8 bytes 16 ≡ 0)) → (HasNext kind (number_at 8 bytes 24) → ⊥)
    → IsFirstWrong (IsFront kind) (front_fields kind) bytes 7
wrong_next kind bytes fits long first second seg goes differs =
    let f : BlockFront = record { number = number_at 2 bytes 2; seg = slice_index bytes 4; version = number_at 8 bytes 8; scn = number_at 8 bytes 16; next = some_next kind } in
    let is : IsFront kind f = record {
      fits = (kind_fits kind, (omega arith, (big_from-below 0 2 (drop 2 bytes) (IsBytes-drop 2 bytes fits), (fits 4, (tt, (big_from-below 0 8 (drop 8 bytes) (IsBytes-drop 8 bytes fits), (big_from-below 0 8 (drop 16 bytes) (IsBytes-drop 16 bytes fits), (some_next_fits kind, tt))))))));
      segment = seg.1;
      scn = goes;
      next = has_some_next kind;
    } in
    record {
      right_before = (f, is, spelled_where_all_stand bytes 0 (first_fields 6 (front_fields kind f)) fits (omega arith) (first, (second, (refl, (refl, (seg.0, (refl, (refl, tt))))))));
      wrong = λ g is_g begins.
          let all = all_stand_where_spelled bytes 0 (first_fields 7 (front_fields kind g)) is_g.fits begins in
          differs (subst (HasNext kind) (sym all.1.1.1.1.1.1.1.0) is_g.next);
    }

-- what was read is a front whose bytes stand there
pub front_read : (kind : BlockKind) (bytes : List ℕ) (f : BlockFront) → f ≡ record { number = number_at 2 bytes 2; seg = slice_index bytes 4; version = number_at 8 bytes 8; scn = number_at 8 bytes 16; next = number_at 8 bytes 24 }
    → IsBytes bytes → 32 ≤ length bytes → slice_index bytes 0 ≡ kind_number kind → slice_index bytes 1 ≡ 1
    → HasSegmentIn kind bytes → HasScn f → HasNext kind f.next → IsFront kind f × Begins bytes (spelled (first_fields 7 (front_fields kind f)))
front_read kind bytes f is fits long first second seg scn next =
    let all : AllStand bytes 0 (first_fields 7 (front_fields kind f)) =
    (first, (second, (ap (λ (x : BlockFront). x.number) (sym is), (ap (λ (x : BlockFront). x.seg) (sym is), (seg.0, (ap (λ (x : BlockFront). x.version) (sym is), (ap (λ (x : BlockFront). x.scn) (sym is), (ap (λ (x : BlockFront). x.next) (sym is), tt)))))))) in
    (record { fits = fit_where_all_stand bytes 0 (first_fields 7 (front_fields kind f)) fits all; segment = subst (HasSegment kind) (ap (λ (x : BlockFront). x.seg) (sym is)) seg.1; scn = scn; next = next }, spelled_where_all_stand bytes 0 (first_fields 7 (front_fields kind f)) fits long all)
