-- What is read before the changes of a record.
use Rattle.std.proofs.Common.{◌≡◌, ℕ, ◌≤◌, List, length, slice_index, refl, sym, ap, ◌∙◌}
use Rattle.base_types.specs.declared.names.Xid.{Xid}
use Rattle.redo_types.specs.declared.redo.RedoKind.{RedoKind}
use Rattle.redo_types.specs.declared.redo.RedoKind.TheVariants.{Change, Commit, Lock, RollbackEnd, StepBack}
use Rattle.base_types.specs.Bytes.{number_at, xid_at}
use Rattle.part_image.specs.Cells.{Begins, spelled}
use Rattle.part_image.proofs.CellLemmas.{AllStand, all_stand_where_spelled, fit_where_all_stand, spelled_where_all_stand}
use Rattle.part_image.proofs.Numbers.{IsBytes}
use Rattle.redo_record.specs.declared.start.Start.{Start}
use Rattle.redo_record.specs.Parts.{HasForm, HasRanges, IsStart, start_cells}
use Rattle.redo_record.specs.Redo.{kind_number}

-- two kinds with one number are the same
pub same_kind : (a b : RedoKind) → kind_number a ≡ kind_number b → a ≡ b
same_kind Change Change h = refl
same_kind Lock Lock h = refl
same_kind StepBack StepBack h = refl
same_kind Commit Commit h = refl
same_kind RollbackEnd RollbackEnd h = refl
same_kind Change Lock h = absurd cc
same_kind Change StepBack h = absurd cc
same_kind Change Commit h = absurd cc
same_kind Change RollbackEnd h = absurd cc
same_kind Lock Change h = absurd cc
same_kind Lock StepBack h = absurd cc
same_kind Lock Commit h = absurd cc
same_kind Lock RollbackEnd h = absurd cc
same_kind StepBack Change h = absurd cc
same_kind StepBack Lock h = absurd cc
same_kind StepBack Commit h = absurd cc
same_kind StepBack RollbackEnd h = absurd cc
same_kind Commit Change h = absurd cc
same_kind Commit Lock h = absurd cc
same_kind Commit StepBack h = absurd cc
same_kind Commit RollbackEnd h = absurd cc
same_kind RollbackEnd Change h = absurd cc
same_kind RollbackEnd Lock h = absurd cc
same_kind RollbackEnd StepBack h = absurd cc
same_kind RollbackEnd Commit h = absurd cc

-- where the numbers of a start stand
pub record StartParts (bytes : List ℕ) (s : Start) : Type 0 where
  pub kind : slice_index bytes 2 ≡ kind_number s.kind
  pub form : HasForm s.kind bytes
  pub xid : xid_at bytes 4 ≡ s.xid
  pub scn : number_at 8 bytes 12 ≡ s.scn
  pub seq : number_at 8 bytes 20 ≡ s.seq

pub start_parts : (bytes : List ℕ) (s : Start) → IsStart s → Begins bytes (spelled (start_cells s)) → StartParts bytes s
start_parts bytes s is begins =
    let all = all_stand_where_spelled bytes 0 (start_cells s) is.fits begins in
    let xid = all.1.1.1 in
    let last = xid.1.1.1.1 in
    record { kind = all.1.0; form = (all.0, all.1.1.0, xid.1.1.0); xid = rw (xid.0, xid.1.0, xid.1.1.1.0) refl; scn = last.0; seq = last.1.0 }

-- what was read is a start whose bytes stand there
pub start_read : (bytes : List ℕ) (s : Start) → IsBytes bytes → 28 ≤ length bytes → StartParts bytes s → HasRanges s → IsStart s × Begins bytes (spelled (start_cells s))
start_read bytes s fits long parts ranges =
    let seg = ap (λ (x : Xid). x.seg) parts.xid in
    let slot = ap (λ (x : Xid). x.slot) parts.xid in
    let wrap = ap (λ (x : Xid). x.wrap) parts.xid in
    let all : AllStand bytes 0 (start_cells s) =
    (parts.form.0, (parts.kind, (parts.form.1, (seg, (slot, (parts.form.2, (wrap, (parts.scn, (parts.seq, tt))))))))) in
    (record { fits = fit_where_all_stand bytes 0 (start_cells s) fits all; ranges = ranges }, spelled_where_all_stand bytes 0 (start_cells s) fits long all)

-- two starts with the same numbers are the same
pub start_same : (v w : Start) → v.kind ≡ w.kind → v.xid ≡ w.xid → v.scn ≡ w.scn → v.seq ≡ w.seq → v ≡ w
start_same v w kind xid scn seq = rw (kind, xid, scn, seq) refl

pub one_start : (bytes : List ℕ) (v w : Start) → IsStart v → IsStart w → Begins bytes (spelled (start_cells v)) → Begins bytes (spelled (start_cells w)) → v ≡ w
one_start bytes v w is_v is_w begins_v begins_w =
    let a = start_parts bytes v is_v begins_v in
    let b = start_parts bytes w is_w begins_w in
    start_same v w (same_kind v.kind w.kind (sym a.kind ∙ b.kind)) (sym a.xid ∙ b.xid) (sym a.scn ∙ b.scn) (sym a.seq ∙ b.seq)
