-- That no operation is under way in an entry that is made anew.
use Rattle.std.proofs.Common.{◌≡◌, ◌∙◌, ◌==◌, ℕ, Bool, true, false, List, [], ◌∷◌, Option, None, Some, refl, fold, if◌then◌else◌}
use Rattle.wire_net.specs.declared.message.Mode.{Mode}
use Rattle.wire_net.specs.declared.message.Mode.TheVariants.{Null, Shared, Exclusive}
use Rattle.wire_net.specs.declared.report.Frame.{Frame}
use Rattle.wire_net.specs.declared.report.Report.{Report}
use Rattle.wire_net.specs.declared.entry.Entry.{Entry}
use Rattle.wire_net.specs.Entry.{empty_entry}
use Rattle.resource_dir.specs.Rebuilt.{held, kept, rebuilt, with_frame, with_report}

op-held : (mode : Mode) (inst : ℕ) (entry : Entry) → (held mode inst entry).op ≡ entry.op
op-held Null inst entry = refl
op-held Shared inst entry = refl
op-held Exclusive inst entry = refl

op-kept : (past : Option ℕ) (inst : ℕ) (entry : Entry) → (kept past inst entry).op ≡ entry.op
op-kept None inst entry = refl
op-kept (Some version) inst entry = refl

op-frame : (block inst : ℕ) (entry : Entry) (frame : Frame) → (with_frame block inst entry frame).op ≡ entry.op
op-frame block inst entry frame = go (frame.block == block) where
  go : (is_of : Bool) → (if is_of then kept frame.past inst (held frame.mode inst entry) else entry).op ≡ entry.op
  go true = op-kept frame.past inst (held frame.mode inst entry) ∙ op-held frame.mode inst entry
  go false = refl

op-frames : (block inst : ℕ) (frames : List Frame) (entry : Entry) → (fold (with_frame block inst) entry frames).op ≡ entry.op
op-frames block inst [] entry = refl
op-frames block inst (frame ∷ frames) entry =
    op-frames block inst frames (with_frame block inst entry frame) ∙ op-frame block inst entry frame

op-reports : (block : ℕ) (reports : List (ℕ × Report)) (entry : Entry) → (fold (with_report block) entry reports).op ≡ entry.op
op-reports block [] entry = refl
op-reports block (reported ∷ reports) entry =
    op-reports block reports (with_report block entry reported) ∙ op-frames block reported.0 reported.1.frames entry

pub op-rebuilt : (block : ℕ) (reports : List (ℕ × Report)) → (rebuilt block reports).op ≡ None
op-rebuilt block reports = op-reports block reports empty_entry
