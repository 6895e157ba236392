-- The line of an item says the item.
use Rattle.std.proofs.Common.{◌≡◌, ◌≢◌, ◌∙◌, ℕ, ℤ, suc, zero, ◌+◌, ◌*◌, ◌^◌, ◌<◌, ◌≤◌, true, false, ◌&&◌, ◌==◌, nat_lt, nat_le, List, [], ◌∷◌, ◌++◌, length, take, slice_get, Some, Ok, codes, refl, ap, sym, arith, lit≤}
use Rattle.std.specs.Fmt.{decimal, signed_decimal}
use Rattle.std.specs.List.{AllByRecursion, list_all, list_any}
use Rattle.std.proofs.lemmas.Bool.Decides.{nat_tests}
use Rattle.std.proofs.lemmas.Grind.{common_steps}
use Rattle.base_types.specs.declared.value.Value.{Value}
use Rattle.base_types.specs.declared.value.Value.TheVariants.{Absent, Num}
use Rattle.script_text.specs.declared.item.Item.{Item}
use Rattle.script_text.specs.declared.item.Item.TheVariants as items
use Rattle.script_text.specs.declared.item.Keep.{Keep}
use Rattle.script_text.specs.declared.item.Stmt.{Stmt}
use Rattle.script_text.specs.declared.item.Stmt.TheVariants as statements
use Rattle.script_text.specs.declared.script.Settings.{Settings}
use Rattle.script_print.proofs.SaidType.{Said}
use Rattle.script_text.specs.Clashes.{clashes}
use Rattle.script_text.specs.Forms.{with_item, is_open, is_one_inst, session_number}
use Rattle.script_text.specs.Forms.{session_line, get_line, scan_line, put_line, add_line, del_line, lock_line}
use Rattle.script_text.specs.Forms.{commit_line, rollback_line, savepoint_line, rollback_to_line, crash_after_line, crash_mark_line, start_line, remaster_line, checkpoint_line, hold_line}
use Rattle.script_text.specs.Reading.{settings_of}
use Rattle.script_text.specs.Rules.{judged_words}
use Rattle.script_text.specs.ScriptParts.{ScriptParts}
use Rattle.script_text.specs.Spelling.{is_name}
use Rattle.script_text.specs.WellFormed.{AreSettings, HasRowsBelow, IsItemWithin, IsKeep, IsOpened, opened_after}
use Rattle.script_print.specs.Spelled.{item_words, keep_word, name_of, statement_words}
use Rattle.script_print.proofs.Names.{AreNames, IsLabelOf, label-of, open-found, short-name}
use Rattle.script_print.proofs.Numbers.{IsSigned, is_keep-word, is_number-decimal, is_signed_number-decimal, keep_of-word, number-decimal, signed_number-decimal, word-decimal, word-keep, word-signed}
use Rattle.script_print.proofs.Rows.{judged-keeps}
use Rattle.script_print.proofs.Texts.{IsWord, is_visible}

-- the number that is put is one of 64 bits
abbrev pub IsSignedValue : Value → Type 0
IsSignedValue Absent = ⊥
IsSignedValue (Num n) = IsSigned n

-- what a statement names is spelled as it has to be
abbrev pub IsSpelledStatement : Stmt → Type 0
IsSpelledStatement (statements.Put row value) = IsSignedValue value
IsSpelledStatement (statements.Add row by) = IsSigned by
IsSpelledStatement (statements.Savepoint name) = is_name name ≡ true
IsSpelledStatement (statements.RollbackTo name) = is_name name ≡ true
IsSpelledStatement _ = Unit {0}

abbrev pub IsSpelled : Item → Type 0
IsSpelled (items.Stmt session what) = IsSpelledStatement what
IsSpelled _ = Unit {0}

-- what holds of the script as a whole
pub record IsSpelledScript (parts : ScriptParts) : Type 0 where
  pub settings : AreSettings parts.settings
  pub names : AreNames parts.names
  pub named : length parts.names ≡ length parts.homes
  pub few : length parts.names ≤ 1024

-- The script was read up to here: it has these settings, and its first sessions, so many, are open.
pub record IsReadTo (parts : ScriptParts) (opened : ℕ) (said : Said) : Type 0 where
  pub settings : settings_of said ≡ parts.settings
  pub sessions : said.sessions ≡ take opened parts.names
  pub homes : said.homes ≡ take opened parts.homes
  pub within : opened ≤ length parts.names

-- what was said once a session is opened
abbrev pub with_session : ScriptParts → Said → Item → Said
with_session parts said (items.Session session inst) =
    record said { sessions = said.sessions ++ name_of parts.names session ∷ []; homes = said.homes ++ inst ∷ [] }
with_session parts said _ = said

-- what was said once an item is read
abbrev pub with_line : ScriptParts → Said → Item → Said
with_line parts said item = with_item (with_session parts said item) item

-- an item that can be read next
pub record CanCome (parts : ScriptParts) (opened : ℕ) (said : Said) (item : Item) : Type 0 where
  pub within : IsItemWithin parts.settings parts.homes item
  pub opens : IsOpened opened item
  pub spelled : IsSpelled item
  pub apart : list_any (λ line. clashes line.1 item) said.wave ≡ false

-- a word that is written out
pub fixed : (word : List ℕ) → (nat_lt 0 (length word) && nat_le (length word) 24 && list_all is_visible word) ≡ true → IsWord word
fixed word h = record { full = grind (arith, nat_tests); short = grind (arith, nat_tests); visible = grind (arith, nat_tests) }

below : (a b : ℕ) → a < b → nat_lt a b ≡ true
below a b h = grind (arith, nat_tests)

upto : (a b : ℕ) → a ≤ b → nat_le a b ≡ true
upto a b h = grind (arith, nat_tests)

slice_get-taken : (homes : List ℕ) (opened k : ℕ) → k < opened → slice_get (take opened homes) k ≡ slice_get homes k
slice_get-taken homes zero k h = absurd (omega arith)
slice_get-taken [] (suc opened) k h = refl
slice_get-taken (home ∷ homes) (suc opened) zero h = refl
slice_get-taken (home ∷ homes) (suc opened) (suc k) h = slice_get-taken homes opened k (omega arith)

next-home : (homes : List ℕ) (k inst : ℕ) → slice_get homes k ≡ Some inst → take k homes ++ inst ∷ [] ≡ take (k + 1) homes
next-home [] zero inst h = absurd (cc)
next-home [] (suc k) inst h = absurd (cc)
next-home (home ∷ homes) zero inst h = let e : home ≡ inst = cc in ap (λ (n : ℕ). n ∷ []) (sym e)
next-home (home ∷ homes) (suc k) inst h =
    let n : suc (k + 1) ≡ suc k + 1 = omega arith in
    ap (λ (more : List ℕ). home ∷ more) (next-home homes k inst h) ∙ ap (λ (m : ℕ). take m (home ∷ homes)) n

module _ (parts : ScriptParts) (spelled : IsSpelledScript parts) (opened : ℕ) (said : Said) (read : IsReadTo parts opened said) where
  instances : settings_of said ≡ parts.settings → (settings_of said).instances ≡ parts.settings.instances
  instances h = ap (λ (s : Settings). s.instances) h

  blocks : settings_of said ≡ parts.settings → (settings_of said).blocks ≡ parts.settings.blocks
  blocks h = ap (λ (s : Settings). s.blocks) h

  -- an instance's number is in its range
  inst-in : (inst : ℕ) → inst < parts.settings.instances → nat_lt inst (settings_of said).instances ≡ true
  inst-in inst h = let e = instances read.settings in below inst (settings_of said).instances (omega arith)

  row-in : (row : ℕ) → row < 8 * parts.settings.blocks → nat_lt row (8 * (settings_of said).blocks) ≡ true
  row-in row h = let e = blocks read.settings in below row (8 * (settings_of said).blocks) (omega arith)

  row-small : (row : ℕ) → row < 8 * parts.settings.blocks → row < 2 ^ 63
  row-small row h = let few = spelled.settings.few_blocks in omega arith

  inst-small : (inst : ℕ) → inst < parts.settings.instances → inst < 2 ^ 63
  inst-small inst h = let few = spelled.settings.few_instances in omega arith

  name-of : (session : ℕ) → session < opened → is_name (name_of parts.names session) ≡ true
  name-of session h = let within = read.within in spelled.names.formed session (omega arith)

  -- an open session is found
  found : (session : ℕ) → session < opened → (is_open said (name_of parts.names session) ≡ true) × (session_number said (name_of parts.names session) ≡ session)
  found session h = rw read.sessions (open-found parts.names opened session spelled.names read.within h)

  -- a statement's line, whose label is this word
  module _ (session : ℕ) (open_yet : session < opened) (name label : List ℕ) (name_is : name_of parts.names session ≡ name) (lab : IsLabelOf name label) where
    formed : is_name name ≡ true
    formed = rw name_is at (name-of session open_yet)

    is_there : is_open said name ≡ true
    is_there = rw name_is at (found session open_yet).0

    number_is : session_number said name ≡ session
    number_is = rw name_is at (found session open_yet).1

    get-said : (row : ℕ) → row < 8 * parts.settings.blocks → judged_words said (label ∷ codes "get" ∷ decimal row ∷ []) ≡ Ok (with_item said (items.Stmt session (statements.Get row)))
    unfolding judged_words get_line
    get-said row h =
        let small = row-small row h in
        rw (lab.no_note, lab.is_label, lab.name_is)
        (judged-keeps (get_line said name (decimal row)) (record {
          names = rw formed refl;
          spelled = rw (is_number-decimal row small) refl;
          in_range = rw (number-decimal row small) (row-in row h);
          in_order = refl;
          in_session = is_there;
          once = refl;
        }) ∙ rw (number-decimal row small, number_is) refl)

    del-said : (row : ℕ) → row < 8 * parts.settings.blocks → judged_words said (label ∷ codes "del" ∷ decimal row ∷ []) ≡ Ok (with_item said (items.Stmt session (statements.Del row)))
    unfolding judged_words del_line
    del-said row h =
        let small = row-small row h in
        rw (lab.no_note, lab.is_label, lab.name_is)
        (judged-keeps (del_line said name (decimal row)) (record {
          names = rw formed refl;
          spelled = rw (is_number-decimal row small) refl;
          in_range = rw (number-decimal row small) (row-in row h);
          in_order = refl;
          in_session = is_there;
          once = refl;
        }) ∙ rw (number-decimal row small, number_is) refl)

    lock-said : (row : ℕ) → row < 8 * parts.settings.blocks → judged_words said (label ∷ codes "lock" ∷ decimal row ∷ []) ≡ Ok (with_item said (items.Stmt session (statements.Lock row)))
    unfolding judged_words lock_line
    lock-said row h =
        let small = row-small row h in
        rw (lab.no_note, lab.is_label, lab.name_is)
        (judged-keeps (lock_line said name (decimal row)) (record {
          names = rw formed refl;
          spelled = rw (is_number-decimal row small) refl;
          in_range = rw (number-decimal row small) (row-in row h);
          in_order = refl;
          in_session = is_there;
          once = refl;
        }) ∙ rw (number-decimal row small, number_is) refl)

    savepoint-said : (mark : List ℕ) → is_name mark ≡ true → judged_words said (label ∷ codes "savepoint" ∷ mark ∷ []) ≡ Ok (with_item said (items.Stmt session (statements.Savepoint mark)))
    unfolding judged_words savepoint_line
    savepoint-said mark h =
        rw (lab.no_note, lab.is_label, lab.name_is)
        (judged-keeps (savepoint_line said name mark) (record {
          names = rw (formed, h) refl;
          spelled = refl;
          in_range = refl;
          in_order = refl;
          in_session = is_there;
          once = refl;
        }) ∙ rw number_is refl)

    commit-said : judged_words said (label ∷ codes "commit" ∷ []) ≡ Ok (with_item said (items.Stmt session statements.Commit))
    unfolding judged_words commit_line
    commit-said =
        rw (
          lab.no_note,
          lab.other (codes "instances") refl,
          lab.other (codes "blocks") refl,
          lab.other (codes "undo") refl,
          lab.other (codes "cache") refl,
          lab.other (codes "seed") refl,
          lab.other (codes "start") refl,
          lab.other (codes "checkpoint") refl,
          lab.is_label,
          lab.name_is,
        )
        (judged-keeps (commit_line said name) (record {
          names = rw formed refl;
          spelled = refl;
          in_range = refl;
          in_order = refl;
          in_session = is_there;
          once = refl;
        }) ∙ rw number_is refl)

    rollback-said : judged_words said (label ∷ codes "rollback" ∷ []) ≡ Ok (with_item said (items.Stmt session statements.Rollback))
    unfolding judged_words rollback_line
    rollback-said =
        rw (
          lab.no_note,
          lab.other (codes "instances") refl,
          lab.other (codes "blocks") refl,
          lab.other (codes "undo") refl,
          lab.other (codes "cache") refl,
          lab.other (codes "seed") refl,
          lab.other (codes "start") refl,
          lab.other (codes "checkpoint") refl,
          lab.is_label,
          lab.name_is,
        )
        (judged-keeps (rollback_line said name) (record {
          names = rw formed refl;
          spelled = refl;
          in_range = refl;
          in_order = refl;
          in_session = is_there;
          once = refl;
        }) ∙ rw number_is refl)

    scan-said : (first last : ℕ) → first ≤ last → last < 8 * parts.settings.blocks → judged_words said (label ∷ codes "scan" ∷ decimal first ∷ decimal last ∷ []) ≡ Ok (with_item said (items.Stmt session (statements.Scan first last)))
    unfolding judged_words scan_line
    scan-said first last le h =
        let small = row-small last h in
        let smaller : first < 2 ^ 63 = omega arith in
        rw (lab.no_note, lab.other (codes "session") refl, lab.other (codes "remaster") refl, lab.other (codes "hold") refl, lab.is_label, lab.name_is)
        (judged-keeps (scan_line said name (decimal first) (decimal last)) (record {
          names = rw formed refl;
          spelled = rw (is_number-decimal first smaller, is_number-decimal last small) refl;
          in_range = rw (number-decimal first smaller, number-decimal last small, row-in last h) (upto first last le);
          in_order = refl;
          in_session = is_there;
          once = refl;
        }) ∙ rw (number-decimal first smaller, number-decimal last small, number_is) refl)

    put-said : (row : ℕ) (value : ℤ) → row < 8 * parts.settings.blocks → IsSigned value → judged_words said (label ∷ codes "put" ∷ decimal row ∷ signed_decimal value ∷ []) ≡ Ok (with_item said (items.Stmt session (statements.Put row (Num value))))
    unfolding judged_words put_line
    put-said row value h signed =
        let small = row-small row h in
        rw (lab.no_note, lab.other (codes "session") refl, lab.other (codes "remaster") refl, lab.other (codes "hold") refl, lab.is_label, lab.name_is)
        (judged-keeps (put_line said name (decimal row) (signed_decimal value)) (record {
          names = rw formed refl;
          spelled = rw (is_number-decimal row small, is_signed_number-decimal value signed) refl;
          in_range = rw (number-decimal row small) (row-in row h);
          in_order = refl;
          in_session = is_there;
          once = refl;
        }) ∙ rw (number-decimal row small, signed_number-decimal value signed, number_is) refl)

    add-said : (row : ℕ) (by : ℤ) → row < 8 * parts.settings.blocks → IsSigned by → judged_words said (label ∷ codes "add" ∷ decimal row ∷ signed_decimal by ∷ []) ≡ Ok (with_item said (items.Stmt session (statements.Add row by)))
    unfolding judged_words add_line
    add-said row by h signed =
        let small = row-small row h in
        rw (lab.no_note, lab.other (codes "session") refl, lab.other (codes "remaster") refl, lab.other (codes "hold") refl, lab.is_label, lab.name_is)
        (judged-keeps (add_line said name (decimal row) (signed_decimal by)) (record {
          names = rw formed refl;
          spelled = rw (is_number-decimal row small, is_signed_number-decimal by signed) refl;
          in_range = rw (number-decimal row small) (row-in row h);
          in_order = refl;
          in_session = is_there;
          once = refl;
        }) ∙ rw (number-decimal row small, signed_number-decimal by signed, number_is) refl)

    rollback_to-said : (mark : List ℕ) → is_name mark ≡ true → judged_words said (label ∷ codes "rollback" ∷ codes "to" ∷ mark ∷ []) ≡ Ok (with_item said (items.Stmt session (statements.RollbackTo mark)))
    unfolding judged_words rollback_to_line
    rollback_to-said mark h =
        rw (lab.no_note, lab.other (codes "session") refl, lab.other (codes "remaster") refl, lab.other (codes "hold") refl, lab.is_label, lab.name_is)
        (judged-keeps (rollback_to_line said name mark) (record {
          names = rw (formed, h) refl;
          spelled = refl;
          in_range = refl;
          in_order = refl;
          in_session = is_there;
          once = refl;
        }) ∙ rw number_is refl)

    statement-said : (what : Stmt) → HasRowsBelow (8 * parts.settings.blocks) what → IsSpelledStatement what
        → judged_words said (label ∷ statement_words what) ≡ Ok (with_item said (items.Stmt session what))
    statement-said (statements.Get row) h s = get-said row h
    statement-said (statements.Scan first last) h s = scan-said first last h.0 h.1
    statement-said (statements.Put row Absent) h s = absurd s
    statement-said (statements.Put row (Num value)) h s = put-said row value h.0 s
    statement-said (statements.Add row by) h s = add-said row by h s
    statement-said (statements.Del row) h s = del-said row h
    statement-said (statements.Lock row) h s = lock-said row h
    statement-said statements.Commit h s = commit-said
    statement-said statements.Rollback h s = rollback-said
    statement-said (statements.Savepoint mark) h s = savepoint-said mark s
    statement-said (statements.RollbackTo mark) h s = rollback_to-said mark s

  -- the other lines
  crash_after-said : (inst steps : ℕ) (keep : Keep) → inst < parts.settings.instances → steps ≤ 1000000 → IsKeep keep
      → list_any (λ line. clashes line.1 (items.CrashAfter inst steps keep)) said.wave ≡ false
      → judged_words said (item_words parts.names (items.CrashAfter inst steps keep)) ≡ Ok (with_item said (items.CrashAfter inst steps keep))
  unfolding judged_words crash_after_line
  crash_after-said inst steps keep h few kept apart =
      let small = inst-small inst h in
      let less : steps < 2 ^ 63 = omega arith in
      judged-keeps (crash_after_line said (decimal inst) (decimal steps) (keep_word keep)) (record {
        names = refl;
        spelled = rw (is_number-decimal inst small, is_number-decimal steps less, is_keep-word keep kept) refl;
        in_range = rw (number-decimal inst small, number-decimal steps less, inst-in inst h) (upto steps 1000000 few);
        in_order = refl;
        in_session = refl;
        once = rw (number-decimal inst small, apart) refl;
      }) ∙ rw (number-decimal inst small, number-decimal steps less, keep_of-word keep kept) refl

  crash_mark-said : (inst : ℕ) (keep : Keep) → inst < parts.settings.instances → IsKeep keep
      → list_any (λ line. clashes line.1 (items.CrashMark inst keep)) said.wave ≡ false
      → judged_words said (item_words parts.names (items.CrashMark inst keep)) ≡ Ok (with_item said (items.CrashMark inst keep))
  unfolding judged_words crash_mark_line
  crash_mark-said inst keep h kept apart =
      let small = inst-small inst h in
      judged-keeps (crash_mark_line said (decimal inst) (keep_word keep)) (record {
        names = refl;
        spelled = rw (is_number-decimal inst small, is_keep-word keep kept) refl;
        in_range = rw (number-decimal inst small) (inst-in inst h);
        in_order = refl;
        in_session = refl;
        once = rw (number-decimal inst small, apart) refl;
      }) ∙ rw (number-decimal inst small, keep_of-word keep kept) refl

  start-said : (inst : ℕ) → inst < parts.settings.instances → list_any (λ line. clashes line.1 (items.Start inst)) said.wave ≡ false
      → judged_words said (item_words parts.names (items.Start inst)) ≡ Ok (with_item said (items.Start inst))
  unfolding judged_words start_line
  start-said inst h apart =
      let small = inst-small inst h in
      judged-keeps (start_line said (decimal inst)) (record {
        names = refl;
        spelled = rw (is_number-decimal inst small) refl;
        in_range = rw (number-decimal inst small) (inst-in inst h);
        in_order = refl;
        in_session = refl;
        once = rw (number-decimal inst small, apart) refl;
      }) ∙ rw (number-decimal inst small) refl

  checkpoint-said : (inst : ℕ) → inst < parts.settings.instances
      → judged_words said (item_words parts.names (items.Checkpoint inst)) ≡ Ok (with_item said (items.Checkpoint inst))
  unfolding judged_words checkpoint_line
  checkpoint-said inst h =
      let small = inst-small inst h in
      judged-keeps (checkpoint_line said (decimal inst)) (record {
        names = refl;
        spelled = rw (is_number-decimal inst small) refl;
        in_range = rw (number-decimal inst small) (inst-in inst h);
        in_order = refl;
        in_session = refl;
        once = refl;
      }) ∙ rw (number-decimal inst small) refl

  remaster-said : (bucket inst : ℕ) → bucket < 16 → inst < parts.settings.instances
      → judged_words said (item_words parts.names (items.Remaster bucket inst)) ≡ Ok (with_item said (items.Remaster bucket inst))
  unfolding judged_words remaster_line
  remaster-said bucket inst few h =
      let small = inst-small inst h in
      let less : bucket < 2 ^ 63 = omega arith in
      judged-keeps (remaster_line said (decimal bucket) (decimal inst)) (record {
        names = refl;
        spelled = rw (is_number-decimal inst small, is_number-decimal bucket less) refl;
        in_range = rw (number-decimal inst small, number-decimal bucket less, below bucket 16 few) (inst-in inst h);
        in_order = refl;
        in_session = refl;
        once = refl;
      }) ∙ rw (number-decimal inst small, number-decimal bucket less) refl

  hold-said : (reader until : ℕ) → reader < opened → until < opened → reader ≢ until → is_one_inst (slice_get parts.homes reader) (slice_get parts.homes until) ≡ true
      → list_any (λ line. clashes line.1 (items.Hold reader until)) said.wave ≡ false
      → judged_words said (item_words parts.names (items.Hold reader until)) ≡ Ok (with_item said (items.Hold reader until))
  unfolding judged_words hold_line
  hold-said reader until r m differ together apart =
      let fr = found reader r in
      let fm = found until m in
      let other : (reader == until) ≡ false = grind (arith, nat_tests) in
      judged-keeps (hold_line said (name_of parts.names reader) (name_of parts.names until)) (record {
        names = rw (name-of reader r, name-of until m) refl;
        spelled = refl;
        in_range = refl;
        in_order = refl;
        in_session = rw (fr.0, fm.0, fr.1, fm.1, other, apart, read.homes, slice_get-taken parts.homes opened reader r, slice_get-taken parts.homes opened until m, together) refl;
        once = refl;
      }) ∙ rw (fr.1, fm.1) refl

  session-said : (inst : ℕ) → opened < length parts.names → inst < parts.settings.instances
      → judged_words said (item_words parts.names (items.Session opened inst)) ≡ Ok (with_line parts said (items.Session opened inst))
  unfolding judged_words session_line
  session-said inst more h =
      let small = inst-small inst h in
      let few = spelled.few in
      let count : length said.sessions ≡ opened = rw read.sessions (grind (arith, common_steps)) in
      let new : is_open said (name_of parts.names opened) ≡ false = rw read.sessions (spelled.names.new opened more) in
      judged-keeps (session_line said (name_of parts.names opened) (decimal inst)) (record {
        names = rw (spelled.names.formed opened more) refl;
        spelled = rw (is_number-decimal inst small) refl;
        in_range = rw (number-decimal inst small, inst-in inst h, count) (below opened 1024 (omega arith));
        in_order = refl;
        in_session = rw new refl;
        once = refl;
      }) ∙ rw (number-decimal inst small, count) refl

  -- whichever item comes, its line says it
  pub item-said : (item : Item) → CanCome parts opened said item → judged_words said (item_words parts.names item) ≡ Ok (with_line parts said item)
  item-said (items.Session session inst) can =
      rw can.opens (session-said inst (let n = spelled.named in omega (arith, can.within.1, can.opens, n)) can.within.2)
  item-said (items.Stmt session what) can =
      statement-said session can.opens (name_of parts.names session) (name_of parts.names session ++ codes ":") refl (label-of _ (name-of session can.opens)) what can.within.1 can.spelled
  item-said (items.CrashAfter inst steps keep) can = crash_after-said inst steps keep can.within.0 can.within.1 can.within.2 can.apart
  item-said (items.CrashMark inst keep) can = crash_mark-said inst keep can.within.0 can.within.1 can.apart
  item-said (items.Start inst) can = start-said inst can.within can.apart
  item-said (items.Remaster bucket to) can = remaster-said bucket to can.within.0 can.within.1
  item-said (items.Checkpoint inst) can = checkpoint-said inst can.within
  item-said (items.Hold reader until) can = hold-said reader until can.opens.0 can.opens.1 can.within.2 can.within.3 can.apart

  -- and its words are words
  statement-words : (what : Stmt) → HasRowsBelow (8 * parts.settings.blocks) what → IsSpelledStatement what → AllByRecursion IsWord (statement_words what)
  statement-words (statements.Get row) h s = (fixed _ refl, (word-decimal row (row-small row h), tt))
  statement-words (statements.Scan first last) h s = (fixed _ refl, (word-decimal first (let small = row-small last h.1 in omega (arith, h.0)), (word-decimal last (row-small last h.1), tt)))
  statement-words (statements.Put row Absent) h s = absurd s
  statement-words (statements.Put row (Num value)) h s = (fixed _ refl, (word-decimal row (row-small row h.0), (word-signed value s, tt)))
  statement-words (statements.Add row by) h s = (fixed _ refl, (word-decimal row (row-small row h), (word-signed by s, tt)))
  statement-words (statements.Del row) h s = (fixed _ refl, (word-decimal row (row-small row h), tt))
  statement-words (statements.Lock row) h s = (fixed _ refl, (word-decimal row (row-small row h), tt))
  statement-words statements.Commit h s = (fixed _ refl, tt)
  statement-words statements.Rollback h s = (fixed _ refl, tt)
  statement-words (statements.Savepoint mark) h s = (fixed _ refl, ((short-name mark s).word, tt))
  statement-words (statements.RollbackTo mark) h s = (fixed _ refl, (fixed _ refl, ((short-name mark s).word, tt)))

  pub item-words : (item : Item) → CanCome parts opened said item → AllByRecursion IsWord (item_words parts.names item)
  item-words (items.Session session inst) can =
      let n = spelled.named in
      (fixed _ refl, ((short-name _ (spelled.names.formed session (omega (arith, can.within.1, n)))).word, (fixed _ refl, (word-decimal inst (inst-small inst can.within.2), tt))))
  item-words (items.Stmt session what) can = ((label-of _ (name-of session can.opens)).word, statement-words what can.within.1 can.spelled)
  item-words (items.CrashAfter inst steps keep) can =
      (fixed _ refl, (word-decimal inst (inst-small inst can.within.0), (fixed _ refl, (word-decimal steps (omega (arith, can.within.1)), (fixed _ refl, (word-keep keep can.within.2, tt))))))
  item-words (items.CrashMark inst keep) can =
      (fixed _ refl, (word-decimal inst (inst-small inst can.within.0), (fixed _ refl, (fixed _ refl, (fixed _ refl, (word-keep keep can.within.1, tt))))))
  item-words (items.Start inst) can = (fixed _ refl, (word-decimal inst (inst-small inst can.within), tt))
  item-words (items.Remaster bucket to) can =
      (fixed _ refl, (word-decimal bucket (omega (arith, can.within.0)), (fixed _ refl, (word-decimal to (inst-small to can.within.1), tt))))
  item-words (items.Checkpoint inst) can = (fixed _ refl, (word-decimal inst (inst-small inst can.within), tt))
  item-words (items.Hold reader until) can =
      (fixed _ refl, ((short-name _ (name-of reader can.opens.0)).word, (fixed _ refl, ((short-name _ (name-of until can.opens.1)).word, tt))))

  statement-few : (what : Stmt) → length (statement_words what) ≤ 3
  statement-few (statements.Get row) = lit≤ tt
  statement-few (statements.Scan first last) = lit≤ tt
  statement-few (statements.Put row value) = lit≤ tt
  statement-few (statements.Add row by) = lit≤ tt
  statement-few (statements.Del row) = lit≤ tt
  statement-few (statements.Lock row) = lit≤ tt
  statement-few statements.Commit = lit≤ tt
  statement-few statements.Rollback = lit≤ tt
  statement-few (statements.Savepoint mark) = lit≤ tt
  statement-few (statements.RollbackTo mark) = lit≤ tt

  pub item-few : (item : Item) → length (item_words parts.names item) ≤ 6
  item-few (items.Session session inst) = lit≤ tt
  item-few (items.Stmt session what) = omega (arith, statement-few what)
  item-few (items.CrashAfter inst steps keep) = lit≤ tt
  item-few (items.CrashMark inst keep) = lit≤ tt
  item-few (items.Start inst) = lit≤ tt
  item-few (items.Remaster bucket to) = lit≤ tt
  item-few (items.Checkpoint inst) = lit≤ tt
  item-few (items.Hold reader until) = lit≤ tt

  -- the script is read up to behind the item
  pub IsReadTo-item : (item : Item) → CanCome parts opened said item → IsReadTo parts (opened_after opened item) (with_line parts said item)
  IsReadTo-item (items.Session session inst) can =
      let n = spelled.named in
      let w = read.within in
      record {
        settings = read.settings;
        sessions = rw (read.sessions, can.opens) (grind (arith, common_steps));
        homes = rw (read.homes) (next-home parts.homes opened inst (rw can.opens at can.within.0));
        within = omega (arith, can.within.1, can.opens, n);
      }
  IsReadTo-item (items.Stmt session what) can = record { settings = read.settings; sessions = read.sessions; homes = read.homes; within = read.within }
  IsReadTo-item (items.CrashAfter inst steps keep) can = record { settings = read.settings; sessions = read.sessions; homes = read.homes; within = read.within }
  IsReadTo-item (items.CrashMark inst keep) can = record { settings = read.settings; sessions = read.sessions; homes = read.homes; within = read.within }
  IsReadTo-item (items.Start inst) can = record { settings = read.settings; sessions = read.sessions; homes = read.homes; within = read.within }
  IsReadTo-item (items.Remaster bucket to) can = record { settings = read.settings; sessions = read.sessions; homes = read.homes; within = read.within }
  IsReadTo-item (items.Checkpoint inst) can = record { settings = read.settings; sessions = read.sessions; homes = read.homes; within = read.within }
  IsReadTo-item (items.Hold reader until) can = record { settings = read.settings; sessions = read.sessions; homes = read.homes; within = read.within }
