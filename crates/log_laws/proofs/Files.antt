-- What calls of the disk do to logs and control entries.
use Rattle.std.proofs.Common.{◌≡◌, ℕ, ◌+◌, ◌^◌, ◌<◌, ◌≤◌, List, [], ◌++◌, length, take, drop, Option, Some, refl, sym, ap, ◌∙◌, ◌⊎◌, inl, inr, arith}
use Rattle.std.specs.Prelude.{Ok, Err, Result}
use Rattle.std.proofs.lemmas.Bool.{cases_lt}
use Rattle.std.proofs.lemmas.List.{length-append, length-drop, length-take, take_all, take-take}
use Rattle.byteorder.specs.Numbers.{big_number-reads_back}
use Rattle.base_types.specs.Bytes.{big_bytes, big_number}
use Rattle.part_image.proofs.CellLemmas.{AllStand, all_stand_where_spelled}
use Rattle.control_image.specs.declared.entry.ControlEntry.{ControlEntry}
use Rattle.control_image.specs.declared.entry.ThreadStatus.{ThreadStatus}
use Rattle.control_image.specs.declared.entry.ThreadStatus.TheVariants.{Closed, Running}
use Rattle.control_image.specs.Entry.{entry_bytes, entry_cells, status_number}
use Rattle.redo_types.specs.declared.redo.Redo.{Redo}
use Rattle.redo_record.specs.Front.{log_bytes}
use Rattle.rac_disk.specs.Calls.{Appends}
use Rattle.rac_disk.specs.Content.{Content}
use Rattle.rac_disk.specs.State.{CutTo, Nothing, PutBehind, PutControl, Reads, State}
use Rattle.disk_calls.specs.declared.writes.Written.{Written}
use Rattle.disk_calls.specs.declared.writes.Written.TheVariants as written
use Rattle.disk_calls.specs.Calls.{CutsLogAs, GivesLengthAs, WritesControlAs, done, failed, length_of}
use Rattle.thread_steps.specs.Entries.{StandsIn}
use Rattle.log_laws.proofs.Cluster.{files_of, log_in, put_control, put_log}
use Rattle.log_laws.proofs.Keeps.{Untouched, told_after}

same_status : (a b : ThreadStatus) → status_number a ≡ status_number b → a ≡ b
same_status Running Running e = refl
same_status Running Closed e = absurd (omega (arith, e))
same_status Closed Running e = absurd (omega (arith, e))
same_status Closed Closed e = refl

-- the bytes of an entry are read as that entry's status and position
pub one_entry : (a b : ControlEntry) → a.position < 256 ^ 8 → StandsIn (entry_bytes a) b → (a.status ≡ b.status) × (a.position ≡ b.position)
one_entry a b small stands =
    let all : AllStand (entry_bytes a) 0 (entry_cells b) = all_stand_where_spelled (entry_bytes a) 0 (entry_cells b) stands.0 stands.1 in
    let behind = big_bytes 8 a.highest_scn ++ (big_bytes 8 a.highest_end_scn ++ []) in
    let reads : big_number 8 (big_bytes 8 a.position ++ behind) ≡ a.position = big_number-reads_back 8 a.position behind small in
    (same_status a.status b.status all.1.0, sym reads ∙ all.1.1.1.0)

-- what is left of an append that failed
pub record Spilled (t : ℕ) (bytes : List ℕ) (it : Content) (told : Option Content) : Type 0 where
  pub now : Content
  pub tells : told ≡ Some now
  pub count : ℕ
  pub files : files_of now ≡ put_log (files_of it) t (log_in (files_of it) t ++ take count bytes)

pub spilled : (t : ℕ) (bytes : List ℕ) (old new : State) (it : Content) → old.told ≡ Some it → Appends t bytes failed old new → Spilled t bytes it new.told
spilled t bytes old new it told made =
    let after = told_after (PutBehind t bytes) failed old new it told made in
    record { now = after.now; tells = after.tells; count = after.did.0; files = ap files_of after.did.2 }

pub appended_all : (t : ℕ) (bytes : List ℕ) (old new : State) (it : Content) → old.told ≡ Some it → Appends t bytes done old new
    → (now : Content) × (new.told ≡ Some now) × (files_of now ≡ put_log (files_of it) t (log_in (files_of it) t ++ bytes))
appended_all t bytes old new it told made =
    let after = told_after (PutBehind t bytes) done old new it told made in (after.now, after.tells, ap files_of after.did)

-- a call that only reads
pub reads_untouched : {T E : Type 0} (Gives : T → Content → Type 0) (result : Result T E) (old new : State) → Reads Gives result old new → Untouched old new
reads_untouched Gives (Ok x) old new it content told =
    let after = told_after Nothing (Ok x) old new content told it.makes in (after.now, after.tells, ap files_of after.did)
reads_untouched Gives (Err x) old new it content told =
    let after = told_after Nothing (Err x) old new content told it.makes in (after.now, after.tells, ap files_of after.did)

pub asks_untouched : (t : ℕ) (len : Option ℕ) (old new : State) → GivesLengthAs t len old new → Untouched old new
asks_untouched t len old new it = reads_untouched (λ (n : ℕ) (c : Content). n ≡ length (log_in (files_of c) t)) (length_of len) old new it

-- the control entry after a write of it: as it was, or the new one
pub record Put (t : ℕ) (bytes : List ℕ) (it : Content) (told : Option Content) : Type 0 where
  pub now : Content
  pub tells : told ≡ Some now
  pub files : (files_of now ≡ files_of it) ⊎ (files_of now ≡ put_control (files_of it) t bytes)

pub put_done : (t : ℕ) (bytes : List ℕ) (old new : State) (it : Content) → old.told ≡ Some it → WritesControlAs t bytes written.Done old new
    → (now : Content) × (new.told ≡ Some now) × (files_of now ≡ put_control (files_of it) t bytes)
put_done t bytes old new it told made =
    let after = told_after (PutControl t bytes) done old new it told made in (after.now, after.tells, ap files_of after.did)

put_failed : (t : ℕ) (bytes : List ℕ) (old new : State) (it : Content) → old.told ≡ Some it → WritesControlAs t bytes written.Failed old new → Put t bytes it new.told
put_failed t bytes old new it told made =
    let after = told_after (PutControl t bytes) failed old new it told made in
    record { now = after.now; tells = after.tells; files = by after.now after.did }
  where
    by : (now : Content) → (now ≡ it) ⊎ (now ≡ (record it { controls = (put_control (files_of it) t bytes).controls })) → (files_of now ≡ files_of it) ⊎ (files_of now ≡ put_control (files_of it) t bytes)
    by now (inl e) = inl (ap files_of e)
    by now (inr e) = inr (ap files_of e)

pub put_as : (t : ℕ) (bytes : List ℕ) (how : Written) (old new : State) (it : Content) → old.told ≡ Some it → WritesControlAs t bytes how old new → Put t bytes it new.told
put_as t bytes written.Done old new it told made =
    let p = put_done t bytes old new it told made in record { now = p.0; tells = p.1; files = inr p.2 }
put_as t bytes written.Failed old new it told made = put_failed t bytes old new it told made

-- the log after a cut of it: as it was, or its first bytes
pub record Shortened (t len : ℕ) (it : Content) (told : Option Content) : Type 0 where
  pub now : Content
  pub tells : told ≡ Some now
  pub files : (files_of now ≡ files_of it) ⊎ (files_of now ≡ put_log (files_of it) t (take len (log_in (files_of it) t)))

pub cut_done : (t len : ℕ) (old new : State) (it : Content) → old.told ≡ Some it → CutsLogAs t len written.Done old new
    → (now : Content) × (new.told ≡ Some now) × (files_of now ≡ put_log (files_of it) t (take len (log_in (files_of it) t)))
cut_done t len old new it told made =
    let after = told_after (CutTo t len) done old new it told made in (after.now, after.tells, ap files_of after.did)

pub cut_failed : (t len : ℕ) (old new : State) (it : Content) → old.told ≡ Some it → CutsLogAs t len written.Failed old new → Shortened t len it new.told
cut_failed t len old new it told made =
    let after = told_after (CutTo t len) failed old new it told made in
    record { now = after.now; tells = after.tells; files = by after.now after.did }
  where
    by : (now : Content) → (now ≡ it) ⊎ (now ≡ (record it { logs = (put_log (files_of it) t (take len (log_in (files_of it) t))).logs })) → (files_of now ≡ files_of it) ⊎ (files_of now ≡ put_log (files_of it) t (take len (log_in (files_of it) t)))
    by now (inl e) = inl (ap files_of e)
    by now (inr e) = inr (ap files_of e)

-- the first of first bytes are first bytes
pub take_twice : (a b : ℕ) (l : List ℕ) → (c : ℕ) × (take a (take b l) ≡ take c l)
take_twice a b l = by (cases_lt a b)
  where
    by : (a < b) ⊎ (b ≤ a) → (c : ℕ) × (take a (take b l) ≡ take c l)
    by (inl less) = (a, take-take a b l (omega (arith, less)))
    by (inr more) = (b, take_all a (take b l) (omega (arith, more, length-take b l)))

-- the place behind the records that were read of a log
pub behind_small : (log : List ℕ) (at : ℕ) (records : List Redo) (rest : List ℕ) → at < 256 ^ 8 → length log < 2 ^ 63 → drop at log ≡ log_bytes records ++ rest
    → at + length (log_bytes records) < 256 ^ 8
behind_small log at records rest small short spelled =
    let size = ap length spelled ∙ length-append (log_bytes records) rest in
    let left = length-drop at log in
    omega (arith, small, short, size, left)
