-- A script that a text reads as can be printed.
use Rattle.std.proofs.Common.{◌≡◌, ◌⊎◌, inl, inr, rules, ◌∙◌, ℕ, pos, neg_ℤ, suc, zero, ◌+◌, ◌^◌, ◌<◌, ◌≤◌, Bool, true, false, cond, ◌&&◌, not, nat_lt, nat_le, List, [], ◌∷◌, ◌++◌, length, take, drop, map, Some, Result, Ok, codes, refl, ap, sym, subst, arith, append_assoc, append-nil, length-append, lit<, lit≤}
use Rattle.std.specs.List.{AllByRecursion, list_all, list_any}
use Rattle.std.specs.Str.{bytes_eq}
use Rattle.std.specs.Str.Lines.{lines}
use Rattle.std.specs.Str.Parse.{starts_with_minus}
use Rattle.std.proofs.lemmas.Bool.Decides.{nat_tests}
use Rattle.std.proofs.lemmas.Grind.{common_steps}
use Rattle.std.proofs.lemmas.List.{map-append}
use Rattle.script_text.specs.declared.item.Item.{Item}
use Rattle.script_text.specs.declared.item.Item.TheVariants as items
use Rattle.script_text.specs.declared.rule.Rule.{Rule}
use Rattle.script_text.specs.declared.rule.Rule.TheVariants as broken
use Rattle.script_print.proofs.SaidType.{Said}
use Rattle.script_text.specs.declared.script.Settings.{Settings}
use Rattle.script_text.specs.Forms.{Row, first_form, forms_of, says_nothing, with_item, is_open}
use Rattle.script_text.specs.Forms.{go_line, instances_line, blocks_line, undo_line, cache_line, seed_line, session_line, get_line, scan_line, put_line, add_line, del_line, lock_line}
use Rattle.script_text.specs.Forms.{commit_line, rollback_line, savepoint_line, rollback_to_line, crash_after_line, crash_mark_line, start_line, remaster_line, checkpoint_line, hold_line}
use Rattle.script_text.specs.Limits.{default_instances, default_blocks, default_undo, default_cache, default_seed}
use Rattle.script_text.specs.Reading.{joined, lines_read, nothing_said, reading, script_of, settings_of}
use Rattle.script_text.specs.Rules.{counted, judged, judged_form, judged_words, kept, line_read}
use Rattle.script_text.specs.ScriptParts.{ScriptParts}
use Rattle.script_text.specs.Spelling.{is_keep, is_name, is_number, is_numeral, is_signed_number, number, signed_number}
use Rattle.script_text.specs.WellFormed.{AreApart, AreOpened, IsItemWithin, IsWellFormed, opened_after}
use Rattle.script_text.specs.Words.{words}
use Rattle.script_text.proofs.LineCases.{line_read-ok}
use Rattle.script_text.proofs.Lists.{All-push}
use Rattle.script_text.proofs.Sound.{go_on-ok, line_read-lines, reading-well_formed, whole-ok}
use Rattle.script_text.proofs.State.{items_so_far, joined-push}
use Rattle.script_print.specs.Printed.{Mark, Asks, Ends, mark_of, marks_behind, marks_of, setting_line, setting_lines}
use Rattle.script_print.specs.Spelled.{name_of}
use Rattle.script_print.proofs.Items.{IsSpelled}
use Rattle.script_print.proofs.Names.{AreNames}
use Rattle.script_print.proofs.Numbers.{IsSigned}
use Rattle.script_print.proofs.ReadBack.{HasRoom, IsPrintable, opened_all}
use Rattle.script_print.proofs.Rows.{Keeps}
use Rattle.script_print.proofs.SettingLines.{setting_line-few}

-- more room is room
room-more : (marks : List Mark) (next last line : ℕ) → last ≤ line → HasRoom next last marks → HasRoom next line marks
room-more [] next last line le room = omega arith
room-more (Asks at item ∷ marks) next last line le room = (room.0, room-more marks (at + 1) last line le room.1)
room-more (Ends ∷ marks) next last line le room = room-more marks (next + 1) last line le room

room-asks : (marks : List Mark) (next last line : ℕ) (item : Item) → last < line → HasRoom next last marks → HasRoom next line (marks ++ Asks line item ∷ [])
room-asks [] next last line item low room = (omega arith, omega arith)
room-asks (Asks at other ∷ marks) next last line item low room = (room.0, room-asks marks (at + 1) last line item low room.1)
room-asks (Ends ∷ marks) next last line item low room = room-asks marks (next + 1) last line item low room

room-ends : (marks : List Mark) (next last line : ℕ) → last < line → HasRoom next last marks → HasRoom next line (marks ++ Ends ∷ [])
room-ends [] next last line low room = omega arith
room-ends (Asks at other ∷ marks) next last line low room = (room.0, room-ends marks (at + 1) last line low room.1)
room-ends (Ends ∷ marks) next last line low room = room-ends marks (next + 1) last line low room

-- the marks of waves, one more item or one more wave
behind-item : (waves : List (List (ℕ × Item))) (wave : List (ℕ × Item)) (line : ℕ × Item) → marks_behind (waves ++ (wave ++ line ∷ []) ∷ []) ≡ marks_behind (waves ++ wave ∷ []) ++ mark_of line ∷ []
behind-item [] wave line = rw (map-append mark_of wave (line ∷ []), append-nil (map mark_of wave), append-nil (map mark_of wave ++ mark_of line ∷ [])) refl
behind-item (first ∷ waves) wave line =
    rw (behind-item waves wave line) (ap (λ (marks : List Mark). Ends ∷ marks) (sym (append_assoc (map mark_of first) (marks_behind (waves ++ wave ∷ [])) (mark_of line ∷ []))))

marks-item : (waves : List (List (ℕ × Item))) (wave : List (ℕ × Item)) (line : ℕ × Item) → marks_of (waves ++ (wave ++ line ∷ []) ∷ []) ≡ marks_of (waves ++ wave ∷ []) ++ mark_of line ∷ []
marks-item [] wave line = rw (map-append mark_of wave (line ∷ []), append-nil (map mark_of wave), append-nil (map mark_of wave ++ mark_of line ∷ [])) refl
marks-item (first ∷ waves) wave line =
    rw (behind-item waves wave line) (sym (append_assoc (map mark_of first) (marks_behind (waves ++ wave ∷ [])) (mark_of line ∷ [])))

behind-go : (waves : List (List (ℕ × Item))) → marks_behind (waves ++ [] ∷ []) ≡ marks_behind waves ++ Ends ∷ []
behind-go [] = refl
behind-go (first ∷ waves) = rw (behind-go waves) (ap (λ (marks : List Mark). Ends ∷ marks) (sym (append_assoc (map mark_of first) (marks_behind waves) (Ends ∷ []))))

marks-go : (waves : List (List (ℕ × Item))) (wave : List (ℕ × Item)) → marks_of ((waves ++ wave ∷ []) ++ [] ∷ []) ≡ marks_of (waves ++ wave ∷ []) ++ Ends ∷ []
marks-go [] wave = rw (append-nil (map mark_of wave)) refl
marks-go (first ∷ waves) wave =
    rw (behind-go (waves ++ wave ∷ [])) (sym (append_assoc (map mark_of first) (marks_behind (waves ++ wave ∷ [])) (Ends ∷ [])))

-- What holds of what was said, as far as printing it asks: the lines of its items and waves are behind those that its
-- settings would take.
record IsGood (line : ℕ) (said : Said) : Type 0 where
  names : AreNames said.sessions
  spelled : AllByRecursion (λ item. IsSpelled item.1) (items_so_far said)
  all_open : opened_all 0 (items_so_far said) ≡ length said.sessions
  begins : said.begun ≡ false → (said.waves ≡ []) × (said.wave ≡ [])
  room : HasRoom (length (setting_lines (settings_of said)) + 1) line (marks_of (said.waves ++ said.wave ∷ []))

opened_all-push : (opened : ℕ) (xs : List (ℕ × Item)) (line : ℕ × Item) → opened_all opened (xs ++ line ∷ []) ≡ opened_after (opened_all opened xs) line.1
opened_all-push opened [] line = refl
opened_all-push opened (x ∷ xs) line = opened_all-push (opened_after opened x.1) xs line

-- a line that is counted leads to what was said next
record Goes (said next : Said) : Type 0 where
  good : (line : ℕ) → line < said.lines → IsGood line said → IsGood said.lines next

-- an item is added, with the sessions that are open then
item-good : (line : ℕ) (said : Said) (sessions : List (List ℕ)) (homes : List ℕ) (item : Item) → line < said.lines → IsGood line said → AreNames sessions
    → opened_after (length said.sessions) item ≡ length sessions → IsSpelled item → IsGood said.lines (with_item (record said { sessions = sessions; homes = homes }) item)
item-good line said sessions homes item low good names count spelled =
    let all : joined said.waves ++ (said.wave ++ (said.lines, item) ∷ []) ≡ items_so_far said ++ (said.lines, item) ∷ [] = sym (append_assoc (joined said.waves) said.wave ((said.lines, item) ∷ [])) in
    record {
      names = names;
      spelled = rw all (All-push (λ line. IsSpelled line.1) (items_so_far said) (said.lines, item) good.spelled spelled);
      all_open = rw all (opened_all-push 0 (items_so_far said) (said.lines, item) ∙ rw good.all_open count);
      begins = λ h. absurd (cc);
      room = rw (marks-item said.waves said.wave (said.lines, item))
          (room-asks (marks_of (said.waves ++ said.wave ∷ [])) (length (setting_lines (settings_of said)) + 1) line said.lines item low good.room);
    }

go-good : (line : ℕ) (said : Said) → line < said.lines → IsGood line said → IsGood said.lines (record said { begun = true; waves = said.waves ++ said.wave ∷ []; wave = [] })
go-good line said low good =
    let all : joined (said.waves ++ said.wave ∷ []) ++ [] ≡ items_so_far said = append-nil (joined (said.waves ++ said.wave ∷ [])) ∙ joined-push said.waves said.wave in
    record {
      names = good.names;
      spelled = rw all good.spelled;
      all_open = rw all good.all_open;
      begins = λ h. absurd (cc);
      room = rw (marks-go said.waves said.wave)
          (room-ends (marks_of (said.waves ++ said.wave ∷ [])) (length (setting_lines (settings_of said)) + 1) line said.lines low good.room);
    }

-- a setting takes a line at most
set-good : (line : ℕ) (said next : Said) → line < said.lines → IsGood line said → said.begun ≡ false
    → next.sessions ≡ said.sessions → next.waves ≡ said.waves → next.wave ≡ said.wave → length (setting_lines (settings_of next)) ≤ length (setting_lines (settings_of said)) + 1 → IsGood said.lines next
set-good line said next low good fresh sessions waves wave more =
    let none = good.begins fresh in
    let room : HasRoom (length (setting_lines (settings_of said)) + 1) line [] = rw (none.0, none.1) at good.room in
    record {
      names = rw sessions good.names;
      spelled = rw (waves, wave) good.spelled;
      all_open = rw (waves, wave, sessions) good.all_open;
      begins = λ h. (waves ∙ none.0, wave ∙ none.1);
      room = rw (waves, wave, none.0, none.1) (omega arith);
    }

length-settings : (a b c d e : List (List ℕ)) → length ((((a ++ b) ++ c) ++ d) ++ e) ≡ (((length a + length b) + length c) + length d) + length e
length-settings a b c d e = simp length-append

-- two settings that differ in one
one-more : (a b c d e x : List (List ℕ)) → length x ≤ 1
    → (length ((((x ++ b) ++ c) ++ d) ++ e) ≤ length ((((a ++ b) ++ c) ++ d) ++ e) + 1)
    × (length ((((a ++ x) ++ c) ++ d) ++ e) ≤ length ((((a ++ b) ++ c) ++ d) ++ e) + 1)
    × (length ((((a ++ b) ++ x) ++ d) ++ e) ≤ length ((((a ++ b) ++ c) ++ d) ++ e) + 1)
    × (length ((((a ++ b) ++ c) ++ x) ++ e) ≤ length ((((a ++ b) ++ c) ++ d) ++ e) + 1)
    × (length ((((a ++ b) ++ c) ++ d) ++ x) ≤ length ((((a ++ b) ++ c) ++ d) ++ e) + 1)
one-more a b c d e x few =
    let all = length-settings a b c d e in (
      omega (arith, length-settings x b c d e, all),
      omega (arith, length-settings a x c d e, all),
      omega (arith, length-settings a b x d e, all),
      omega (arith, length-settings a b c x e, all),
      omega (arith, length-settings a b c d x, all),
    )

both : (a b : Bool) → (a && b) ≡ true → (a ≡ true) × (b ≡ true)
both true b h = (refl, h)
both false b h = absurd (cc)

not_yes : (b : Bool) → not b ≡ true → b ≡ false
not_yes true h = absurd (cc)
not_yes false h = refl

signed-fits : (word : List ℕ) → is_signed_number word ≡ true → IsSigned (signed_number word)
signed-fits word h = by (starts_with_minus word) h
  where
    minus : (n : ℕ) → n ≤ 2 ^ 63 → IsSigned (neg_ℤ (pos n))
    minus zero le = lit< tt
    minus (suc n) le = omega arith

    by : (b : Bool) → cond b (is_numeral (drop 1 word) && nat_le (number (drop 1 word)) (2 ^ 63)) (is_number word) ≡ true → IsSigned (cond b (neg_ℤ (pos (number (drop 1 word)))) (pos (number word)))
    by true k = minus (number (drop 1 word)) (search (rules, nat_tests, (both (is_numeral (drop 1 word)) (nat_le (number (drop 1 word)) (2 ^ 63)) k).1))
    by false k = search (rules, nat_tests, (both (is_numeral word) (nat_lt (number word) (2 ^ 63)) k).1)

-- a new name
names-push : (names : List (List ℕ)) (name : List ℕ) → AreNames names → is_name name ≡ true → list_any (bytes_eq name) names ≡ false → AreNames (names ++ name ∷ [])
names-push names name are formed new = record {
  formed = λ k within. first k (cases k within);
  new = λ k within. second k (cases k within);
}
  where
    cases : (k : ℕ) → k < length (names ++ name ∷ []) → (k < length names) ⊎ (k ≡ length names)
    cases k within = grind (arith, common_steps)

    at-last : name_of (names ++ name ∷ []) (length names) ≡ name
    at-last = grind (arith, common_steps)

    at-before : (k : ℕ) → k < length names → name_of (names ++ name ∷ []) k ≡ name_of names k
    at-before k within = grind (arith, common_steps)

    take-last : take (length names) (names ++ name ∷ []) ≡ names
    take-last = grind (arith, common_steps)

    take-before : (k : ℕ) → k < length names → take k (names ++ name ∷ []) ≡ take k names
    take-before k within = grind (arith, common_steps)

    first : (k : ℕ) → (k < length names) ⊎ (k ≡ length names) → is_name (name_of (names ++ name ∷ []) k) ≡ true
    first k (inl within) = rw (at-before k within) (are.formed k within)
    first k (inr last) = rw (last, at-last) formed

    second : (k : ℕ) → (k < length names) ⊎ (k ≡ length names) → list_any (bytes_eq (name_of (names ++ name ∷ []) k)) (take k (names ++ name ∷ [])) ≡ false
    second k (inl within) = rw (at-before k within, take-before k within) (are.new k within)
    second k (inr last) = rw (last, at-last, take-last) new

kept-ok : (b : Bool) (rule : Rule) (next : Result Said Rule) (said : Said) → kept b rule next ≡ Ok said → (b ≡ true) × (next ≡ Ok said)
kept-ok true rule next said h = (refl, h)
kept-ok false rule next said h = absurd (cc)

Ok-same : (x y : Said) → (let r : Result Said Rule = Ok x in r ≡ Ok y) → x ≡ y
Ok-same x y h = cc

-- what a row that was kept says
judged-kept : (row : Row) (next : Said) → judged row ≡ Ok next → Keeps row × (row.then_said ≡ next)
unfolding judged
judged-kept row next h =
    let names = kept-ok (list_all is_name row.names) broken.Name _ next h in
    let numbers = kept-ok (list_all is_number row.numbers && list_all is_signed_number row.signed_numbers && list_all is_keep row.keeps) broken.Number _ next names.1 in
    let range = kept-ok row.in_range broken.Range _ next numbers.1 in
    let order = kept-ok row.in_order broken.Order _ next range.1 in
    let session = kept-ok row.in_session broken.Session _ next order.1 in
    let once = kept-ok row.once broken.Twice _ next session.1 in
    (record { names = names.0; spelled = numbers.0; in_range = range.0; in_order = order.0; in_session = session.0; once = once.0 }, Ok-same _ _ once.1)

-- what a form says of a good text
abbrev Says : Said → Row → Type 0
Says said row = Keeps row → Goes said row.then_said

first-says : (said next : Said) (forms : List (Bool × Row)) → AllByRecursion (λ form. Says said form.1) forms → judged_form (first_form forms) ≡ Ok next → Goes said next
first-says said next [] each h = absurd (cc)
first-says said next (form ∷ forms) each h = by form.0 (first-says said next forms each.1) h
  where
    by : (b : Bool) → (judged_form (first_form forms) ≡ Ok next → Goes said next) → judged_form (cond b (Some form.1) (first_form forms)) ≡ Ok next → Goes said next
    by true more k = let row = judged-kept form.1 next k in subst (Goes said) row.1 (each.0 row.0)
    by false more k = more k

words-say : (said next : Said) (ws : List (List ℕ)) → Goes said said → AllByRecursion (λ form. Says said form.1) (forms_of said ws) → judged_words said ws ≡ Ok next → Goes said next
unfolding judged_words
words-say said next ws nothing each h = by (says_nothing ws) h
  where
    by : (b : Bool) → cond b (Ok said) (judged_form (first_form (forms_of said ws))) ≡ Ok next → Goes said next
    by true h = let e : said ≡ next = cc in subst (Goes said) e nothing
    by false h = first-says said next (forms_of said ws) each h

module _ (said : Said) where
  -- an item that opens no session
  plain-item : (item : Item) → opened_after (length said.sessions) item ≡ length said.sessions → IsSpelled item → Goes said (with_item said item)
  plain-item item count spelled = record { good = λ line low good. item-good line said said.sessions said.homes item low good good.names count spelled }

  go-says : Says said (go_line said)
  unfolding go_line
  go-says keeps = record { good = λ line low good. go-good line said low good }

  fresh : (is_set : Bool) → (not said.begun && not is_set) ≡ true → said.begun ≡ false
  fresh is_set h = not_yes said.begun ((both (not said.begun) (not is_set) h).0)

  set-goes : (next : Said) → said.begun ≡ false → next.sessions ≡ said.sessions → next.waves ≡ said.waves → next.wave ≡ said.wave
      → length (setting_lines (settings_of next)) ≤ length (setting_lines (settings_of said)) + 1 → Goes said next
  set-goes next fresh sessions waves wave more = record { good = λ line low good. set-good line said next low good fresh sessions waves wave more }

  a : List (List ℕ)
  a = setting_line (codes "instances") default_instances (settings_of said).instances

  b : List (List ℕ)
  b = setting_line (codes "blocks") default_blocks (settings_of said).blocks

  c : List (List ℕ)
  c = setting_line (codes "undo") default_undo (settings_of said).undo

  d : List (List ℕ)
  d = setting_line (codes "cache") default_cache (settings_of said).cache

  e : List (List ℕ)
  e = setting_line (codes "seed") default_seed (settings_of said).seed

  instances-says : (count : List ℕ) → Says said (instances_line said count)
  unfolding instances_line a b c d e
  instances-says count keeps =
      set-goes (record said { instances = Some (number count) }) (fresh _ keeps.in_order) refl refl refl
      (one-more a b c d e (setting_line (codes "instances") default_instances (number count)) (setting_line-few (codes "instances") default_instances (number count))).0

  blocks-says : (count : List ℕ) → Says said (blocks_line said count)
  unfolding blocks_line a b c d e
  blocks-says count keeps =
      set-goes (record said { blocks = Some (number count) }) (fresh _ keeps.in_order) refl refl refl
      (one-more a b c d e (setting_line (codes "blocks") default_blocks (number count)) (setting_line-few (codes "blocks") default_blocks (number count))).1

  undo-says : (count : List ℕ) → Says said (undo_line said count)
  unfolding undo_line a b c d e
  undo-says count keeps =
      set-goes (record said { undo = Some (number count) }) (fresh _ keeps.in_order) refl refl refl
      (one-more a b c d e (setting_line (codes "undo") default_undo (number count)) (setting_line-few (codes "undo") default_undo (number count))).2

  cache-says : (count : List ℕ) → Says said (cache_line said count)
  unfolding cache_line a b c d e
  cache-says count keeps =
      set-goes (record said { cache = Some (number count) }) (fresh _ keeps.in_order) refl refl refl
      (one-more a b c d e (setting_line (codes "cache") default_cache (number count)) (setting_line-few (codes "cache") default_cache (number count))).3

  seed-says : (count : List ℕ) → Says said (seed_line said count)
  unfolding seed_line a b c d e
  seed-says count keeps =
      set-goes (record said { seed = Some (number count) }) (fresh _ keeps.in_order) refl refl refl
      (one-more a b c d e (setting_line (codes "seed") default_seed (number count)) (setting_line-few (codes "seed") default_seed (number count))).4

  session-says : (name inst : List ℕ) → Says said (session_line said name inst)
  unfolding session_line
  session-says name inst keeps = record {
    good = λ line low good.
        item-good line said (said.sessions ++ name ∷ []) (said.homes ++ number inst ∷ []) (items.Session (length said.sessions) (number inst)) low good
        (names-push said.sessions name good.names ((both (is_name name) true keeps.names).0) (not_yes (is_open said name) keeps.in_session))
        (sym (length-append said.sessions (name ∷ []))) tt;
  }

  second-name : (name mark : List ℕ) → (is_name name && (is_name mark && true)) ≡ true → is_name mark ≡ true
  second-name name mark h = (both (is_name mark) true ((both (is_name name) (is_name mark && true) h).1)).0

  one-signed : (numbers : Bool) (word : List ℕ) → (numbers && (is_signed_number word && true) && true) ≡ true → is_signed_number word ≡ true
  one-signed numbers word h =
      let front = both (numbers && (is_signed_number word && true)) true h in
      (both (is_signed_number word) true ((both numbers (is_signed_number word && true) front.0).1)).0

  get-says : (name row : List ℕ) → Says said (get_line said name row)
  unfolding get_line
  get-says name row keeps = plain-item _ refl tt

  scan-says : (name first last : List ℕ) → Says said (scan_line said name first last)
  unfolding scan_line
  scan-says name first last keeps = plain-item _ refl tt

  put-says : (name row value : List ℕ) → Says said (put_line said name row value)
  unfolding put_line
  put-says name row value keeps = plain-item _ refl (signed-fits value (one-signed (list_all is_number (row ∷ [])) value keeps.spelled))

  add-says : (name row by : List ℕ) → Says said (add_line said name row by)
  unfolding add_line
  add-says name row by keeps = plain-item _ refl (signed-fits by (one-signed (list_all is_number (row ∷ [])) by keeps.spelled))

  del-says : (name row : List ℕ) → Says said (del_line said name row)
  unfolding del_line
  del-says name row keeps = plain-item _ refl tt

  lock-says : (name row : List ℕ) → Says said (lock_line said name row)
  unfolding lock_line
  lock-says name row keeps = plain-item _ refl tt

  commit-says : (name : List ℕ) → Says said (commit_line said name)
  unfolding commit_line
  commit-says name keeps = plain-item _ refl tt

  rollback-says : (name : List ℕ) → Says said (rollback_line said name)
  unfolding rollback_line
  rollback-says name keeps = plain-item _ refl tt

  savepoint-says : (name mark : List ℕ) → Says said (savepoint_line said name mark)
  unfolding savepoint_line
  savepoint-says name mark keeps = plain-item _ refl (second-name name mark keeps.names)

  rollback_to-says : (name mark : List ℕ) → Says said (rollback_to_line said name mark)
  unfolding rollback_to_line
  rollback_to-says name mark keeps = plain-item _ refl (second-name name mark keeps.names)

  crash_after-says : (inst steps keep : List ℕ) → Says said (crash_after_line said inst steps keep)
  unfolding crash_after_line
  crash_after-says inst steps keep keeps = plain-item _ refl tt

  crash_mark-says : (inst keep : List ℕ) → Says said (crash_mark_line said inst keep)
  unfolding crash_mark_line
  crash_mark-says inst keep keeps = plain-item _ refl tt

  start-says : (inst : List ℕ) → Says said (start_line said inst)
  unfolding start_line
  start-says inst keeps = plain-item _ refl tt

  remaster-says : (bucket inst : List ℕ) → Says said (remaster_line said bucket inst)
  unfolding remaster_line
  remaster-says bucket inst keeps = plain-item _ refl tt

  checkpoint-says : (inst : List ℕ) → Says said (checkpoint_line said inst)
  unfolding checkpoint_line
  checkpoint-says inst keeps = plain-item _ refl tt

  hold-says : (reader until : List ℕ) → Says said (hold_line said reader until)
  unfolding hold_line
  hold-says reader until keeps = plain-item _ refl tt

  forms-say : (ws : List (List ℕ)) → AllByRecursion (λ form. Says said form.1) (forms_of said ws)
  forms-say [] = tt
  forms-say (a ∷ []) = (go-says, tt)
  forms-say (a ∷ b ∷ []) =
      (instances-says b, (blocks-says b, (undo-says b, (cache-says b, (seed-says b, (start-says b, (checkpoint-says b, (commit-says _, (rollback-says _, tt)))))))))
  forms-say (a ∷ b ∷ c ∷ []) = (get-says _ c, (del-says _ c, (lock-says _ c, (savepoint-says _ c, tt))))
  forms-say (a ∷ b ∷ c ∷ d ∷ []) =
      (session-says b d, (remaster-says b d, (hold-says b d, (scan-says _ c d, (put-says _ c d, (add-says _ c d, (rollback_to-says _ d, tt)))))))
  forms-say (a ∷ b ∷ c ∷ d ∷ e ∷ []) = tt
  forms-say (a ∷ b ∷ c ∷ d ∷ e ∷ f ∷ []) = (crash_after-says b d f, (crash_mark-says b f, tt))
  forms-say (a ∷ b ∷ c ∷ d ∷ e ∷ f ∷ g ∷ more) = tt

  nothing-says : Goes said said
  nothing-says = record {
    good = λ line low good. record {
      names = good.names;
      spelled = good.spelled;
      all_open = good.all_open;
      begins = good.begins;
      room = room-more (marks_of (said.waves ++ said.wave ∷ [])) (length (setting_lines (settings_of said)) + 1) line said.lines (omega arith) good.room;
    };
  }

line-good : (said next : Said) (line : List ℕ) → IsGood said.lines said → line_read said line ≡ Ok next → IsGood next.lines next
line-good said next line good h =
    let goes = words-say (counted said) next (words line) (nothing-says (counted said)) (forms-say (counted said) (words line)) (line_read-ok said next line h).1 in
    let here : IsGood said.lines (counted said) = record { names = good.names; spelled = good.spelled; all_open = good.all_open; begins = good.begins; room = good.room } in
    subst (λ (n : ℕ). IsGood n next) (sym (line_read-lines said next line h)) (goes.good said.lines (omega arith) here)

lines-good : (ls : List (List ℕ)) (said final : Said) → IsGood said.lines said → lines_read said ls ≡ Ok final → IsGood final.lines final
lines-good [] said final good h = let e : said ≡ final = cc in subst (λ (s : Said). IsGood s.lines s) e good
lines-good (line ∷ ls) said final good h =
    let next = go_on-ok (line_read said line) (said.lines + 1) (λ s. lines_read s ls) final h in
    lines-good ls next.0 final (line-good said next.0 line good next.1) next.2

nothing-good : IsGood 0 nothing_said
nothing-good = record {
  names = record { formed = λ k within. absurd (omega arith); new = λ k within. absurd (omega arith) };
  spelled = tt;
  all_open = refl;
  begins = λ h. (refl, refl);
  room = lit≤ tt;
}

-- waves with a last one begin with a first one
record Splits (waves : List (List (ℕ × Item))) : Type 0 where
  first : List (ℕ × Item)
  more : List (List (ℕ × Item))
  is : waves ≡ first ∷ more

split-push : (waves : List (List (ℕ × Item))) (wave : List (ℕ × Item)) → Splits (waves ++ wave ∷ [])
split-push [] wave = record { first = wave; more = []; is = refl }
split-push (first ∷ waves) wave = record { first = first; more = waves ++ wave ∷ []; is = refl }

-- a well-formed script that was said can be printed
said-printable : (parts : ScriptParts) (final : Said) → script_of final ≡ parts → IsGood final.lines final → IsWellFormed parts → IsPrintable parts
said-printable parts final is good formed =
    let waves = split-push final.waves final.wave in
    let names_are : final.sessions ≡ parts.names = ap (λ (p : ScriptParts). p.names) is in
    let waves_are : final.waves ++ final.wave ∷ [] ≡ parts.waves = ap (λ (p : ScriptParts). p.waves) is in
    let settings_are : settings_of final ≡ parts.settings = ap (λ (p : ScriptParts). p.settings) is in
    let lines_are : final.lines ≡ parts.lines = ap (λ (p : ScriptParts). p.lines) is in
    let items : items_so_far final ≡ waves.first ++ joined waves.more = sym (joined-push final.waves final.wave) ∙ ap joined waves.is in
    let split : parts.waves ≡ waves.first ∷ waves.more = sym waves_are ∙ waves.is in
    let by_settings = subst (λ (s : Settings). HasRoom (length (setting_lines s) + 1) final.lines (marks_of (final.waves ++ final.wave ∷ []))) settings_are good.room in
    let by_lines = subst (λ (n : ℕ). HasRoom (length (setting_lines parts.settings) + 1) n (marks_of (final.waves ++ final.wave ∷ []))) lines_are by_settings in
    record {
      spelled = record {
        settings = formed.settings_fit;
        names = subst AreNames names_are good.names;
        named = formed.sessions_are_named;
        few = formed.sessions_fit;
      };
      first = waves.first;
      more = waves.more;
      waves = split;
      within = subst (λ (ws : List (List (ℕ × Item))). AllByRecursion (λ line. IsItemWithin parts.settings parts.homes line.1) (joined ws)) split formed.items_within;
      opens = subst (λ (ws : List (List (ℕ × Item))). AreOpened 0 (joined ws)) split formed.items_opened;
      all_open = ap (λ (xs : List (ℕ × Item)). opened_all 0 xs) (sym items) ∙ good.all_open ∙ ap length names_are;
      spelled_items = subst (λ (xs : List (ℕ × Item)). AllByRecursion (λ line. IsSpelled line.1) xs) items good.spelled;
      apart = subst (λ (ws : List (List (ℕ × Item))). AllByRecursion AreApart ws) split formed.items_apart;
      room = subst (λ (ws : List (List (ℕ × Item))). HasRoom (length (setting_lines parts.settings) + 1) parts.lines (marks_of ws)) waves.is by_lines;
      few = formed.lines_fit;
    }

-- the script that a text reads as can be printed
pub reading-printable : (text : List ℕ) (parts : ScriptParts) → reading text ≡ Ok parts → IsPrintable parts
unfolding reading
reading-printable text parts h =
    let read = whole-ok (lines_read nothing_said (lines text)) parts h in
    said-printable parts read.0 read.2 (lines-good (lines text) nothing_said read.0 nothing-good read.1) (reading-well_formed text parts h)
