-- Each form of a line that breaks no rule leaves what was said sound.
use Rattle.std.proofs.Common.{codes, cond, drop, ◌*◌, ◌≡◌, ℕ, ◌+◌, ◌%◌, ◌^◌, ◌<◌, ◌≤◌, ◌≢◌, Bool, true, false, not, ◌&&◌, ◌==◌, List, [], ◌∷◌, ◌++◌, length, Some, nat_lt, nat_le, refl, sym, subst, arith, rules, length-append}
use Rattle.std.proofs.lemmas.Bool.{leb-true, eqb-true}
use Rattle.std.proofs.lemmas.Bool.Decides.{nat_tests}
use Rattle.std.specs.List.{list_any, list_all, position_or_len, AllByRecursion}
use Rattle.std.specs.Str.{bytes_eq}
use Rattle.script_text.specs.declared.item.Item.{Item}
use Rattle.script_text.specs.declared.item.Item.TheVariants as items
use Rattle.script_text.specs.declared.item.Stmt.{Stmt}
use Rattle.script_text.specs.declared.item.Keep.TheVariants.{First, All, AllBut}
use Rattle.script_text.specs.declared.said.Said.{Said}
use Rattle.script_text.specs.Clashes.{clashes}
use Rattle.script_text.specs.Spelling.{number, is, is_number, is_keep, keep_of, is_all_but, is_numeral}
use Rattle.script_text.specs.Forms.{Row, forms_of, with_item, is_open, is_inst, is_row, session_number, instances_so_far, blocks_so_far, are_together, is_apart}
use Rattle.script_text.specs.Forms.{go_line, instances_line, blocks_line, undo_line, cache_line, seed_line, session_line, get_line, scan_line, put_line, add_line, del_line, lock_line}
use Rattle.script_text.specs.Forms.{commit_line, rollback_line, savepoint_line, rollback_to_line, crash_after_line, crash_mark_line, start_line, remaster_line, checkpoint_line, hold_line}
use Rattle.script_text.specs.Limits.{instance_limit, block_limit, least_undo, undo_limit, least_cache, cache_limit, session_limit, step_limit, bucket_count}
use Rattle.script_text.specs.Reading.{settings_of}
use Rattle.script_text.specs.WellFormed.{HasRowsBelow, IsKeep, IsItemWithin, IsOpened, opened_after}
use Rattle.script_text.proofs.Lists.{slice_get-before, slice_get-last}
use Rattle.script_text.proofs.LineCases.{IsKept}
use Rattle.script_text.proofs.State.{IsStart, IsSound, with_item-sound, set-sound, go-sound}

both : (a b : Bool) → (a && b) ≡ true → (a ≡ true) × (b ≡ true)
both true b h = (refl, h)
both false b h = absurd (cc)

not_yes : (b : Bool) → not b ≡ true → b ≡ false
not_yes true h = absurd (cc)
not_yes false h = refl

between : (low n high : ℕ) → (nat_le low n && nat_le n high) ≡ true → (low ≤ n) × (n ≤ high)
between low n high h =
    let tests = both (nat_le low n) (nat_le n high) h in
    (leb-true _ _ tests.0, leb-true _ _ tests.1)

below : (a b : ℕ) → nat_lt a b ≡ true → a < b
below a b h = search (rules, nat_tests, h)

-- a line that is counted leads to what was said next
pub record Follows (said next : Said) : Type 0 where
  pub lines : next.lines ≡ said.lines
  pub sound : (line : ℕ) → line < said.lines → IsSound line said → IsSound said.lines next

kept-follows : (said next : Said) (row : Row) → IsKept row next → Follows said row.then_said → Follows said next
kept-follows said next row kept follows = subst (Follows said) kept.next_is follows

-- the words of numbers
is_number-small : (word : List ℕ) → is_number word ≡ true → number word < 2 ^ 63
is_number-small word h = below _ _ ((both (is_numeral word) (nat_lt (number word) (2 ^ 63)) h).1)

keep-fits : (word : List ℕ) → is_keep word ≡ true → IsKeep (keep_of word)
keep-fits word h = whole (is (codes "all") word) h
  where
    part : (b : Bool) → (let r : Bool = cond b (is_number (drop 4 word)) (is_number word) in r ≡ true) → IsKeep (cond b (AllBut (number (drop 4 word))) (First (number word)))
    part true k = is_number-small (drop 4 word) k
    part false k = is_number-small word k

    whole : (b : Bool) → cond b true (cond (is_all_but word) (is_number (drop 4 word)) (is_number word)) ≡ true → IsKeep (cond b All (cond (is_all_but word) (AllBut (number (drop 4 word))) (First (number word))))
    whole true k = tt
    whole false k = part (is_all_but word) k

-- what a row of settings keeps
first_of_all : (said : Said) (is_set : Bool) → (not said.begun && not is_set) ≡ true → said.begun ≡ false
first_of_all said is_set h = not_yes said.begun ((both (not said.begun) (not is_set) h).0)

module _ (said next : Said) where
  go-follows : IsKept (go_line said) next → Follows said next
  unfolding go_line
  go-follows kept = kept-follows said next _ kept (record { lines = refl; sound = λ line later sound. go-sound line said later sound })

  instances-follows : (count : List ℕ) → IsKept (instances_line said count) next → Follows said next
  unfolding instances_line
  instances-follows count kept =
      let range = between 1 (number count) instance_limit kept.in_range in
      kept-follows said next _ kept (record {
        lines = refl;
        sound = λ line later sound.
            set-sound line said (Some (number count)) said.blocks said.undo said.cache said.seed later sound (first_of_all said _ kept.in_order)
            (let s = sound.settings in record { some_instances = range.0; few_instances = range.1; some_blocks = s.some_blocks; few_blocks = s.few_blocks; some_undo = s.some_undo; few_undo = s.few_undo; undo_by_four = s.undo_by_four; some_cache = s.some_cache; few_cache = s.few_cache; seed_fits = s.seed_fits });
      })

  blocks-follows : (count : List ℕ) → IsKept (blocks_line said count) next → Follows said next
  unfolding blocks_line
  blocks-follows count kept =
      let range = between 1 (number count) block_limit kept.in_range in
      kept-follows said next _ kept (record {
        lines = refl;
        sound = λ line later sound.
            set-sound line said said.instances (Some (number count)) said.undo said.cache said.seed later sound (first_of_all said _ kept.in_order)
            (let s = sound.settings in record { some_instances = s.some_instances; few_instances = s.few_instances; some_blocks = range.0; few_blocks = range.1; some_undo = s.some_undo; few_undo = s.few_undo; undo_by_four = s.undo_by_four; some_cache = s.some_cache; few_cache = s.few_cache; seed_fits = s.seed_fits });
      })

  undo-follows : (count : List ℕ) → IsKept (undo_line said count) next → Follows said next
  unfolding undo_line
  undo-follows count kept =
      let tests = both (nat_le least_undo (number count) && nat_le (number count) undo_limit) (number count % 4 == 0) kept.in_range in
      let range = between least_undo (number count) undo_limit tests.0 in
      kept-follows said next _ kept (record {
        lines = refl;
        sound = λ line later sound.
            set-sound line said said.instances said.blocks (Some (number count)) said.cache said.seed later sound (first_of_all said _ kept.in_order)
            (let s = sound.settings in record { some_instances = s.some_instances; few_instances = s.few_instances; some_blocks = s.some_blocks; few_blocks = s.few_blocks; some_undo = range.0; few_undo = range.1; undo_by_four = eqb-true _ _ tests.1; some_cache = s.some_cache; few_cache = s.few_cache; seed_fits = s.seed_fits });
      })

  cache-follows : (count : List ℕ) → IsKept (cache_line said count) next → Follows said next
  unfolding cache_line
  cache-follows count kept =
      let range = between least_cache (number count) cache_limit kept.in_range in
      kept-follows said next _ kept (record {
        lines = refl;
        sound = λ line later sound.
            set-sound line said said.instances said.blocks said.undo (Some (number count)) said.seed later sound (first_of_all said _ kept.in_order)
            (let s = sound.settings in record { some_instances = s.some_instances; few_instances = s.few_instances; some_blocks = s.some_blocks; few_blocks = s.few_blocks; some_undo = s.some_undo; few_undo = s.few_undo; undo_by_four = s.undo_by_four; some_cache = range.0; few_cache = range.1; seed_fits = s.seed_fits });
      })

  one_number : (word : List ℕ) (keeps : List (List ℕ)) → (list_all is_number (word ∷ []) && true && list_all is_keep keeps) ≡ true → is_number word ≡ true
  one_number word keeps h =
      let front = both (list_all is_number (word ∷ []) && true) (list_all is_keep keeps) h in
      let numbers = both (list_all is_number (word ∷ [])) true front.0 in
      (both (is_number word) true numbers.0).0

  seed-follows : (count : List ℕ) → IsKept (seed_line said count) next → Follows said next
  unfolding seed_line
  seed-follows count kept =
      let small = is_number-small count (one_number count [] kept.spelled) in
      kept-follows said next _ kept (record {
        lines = refl;
        sound = λ line later sound.
            set-sound line said said.instances said.blocks said.undo said.cache (Some (number count)) later sound (first_of_all said _ kept.in_order)
            (let s = sound.settings in record { some_instances = s.some_instances; few_instances = s.few_instances; some_blocks = s.some_blocks; few_blocks = s.few_blocks; some_undo = s.some_undo; few_undo = s.few_undo; undo_by_four = s.undo_by_four; some_cache = s.some_cache; few_cache = s.few_cache; seed_fits = small });
      })

  same-start : IsStart said.homes said.homes
  same-start = record { fewer = omega arith; same = λ k h. refl }

  -- an item that opens no session
  item-follows : (item : Item) → IsItemWithin (settings_of said) said.homes item → IsOpened (length said.homes) item → opened_after (length said.homes) item ≡ length said.homes
      → list_any (λ earlier. clashes earlier.1 item) said.wave ≡ false → Follows said (with_item said item)
  item-follows item within opened count apart = record {
    lines = refl;
    sound = λ line later sound.
        with_item-sound line said said.sessions said.homes item later sound
        (record { more = same-start; named = sound.named; few = sound.few; within = within; opened = opened; count = count; apart = apart });
  }

  never : (lines : List (ℕ × Item)) (item : Item) → ((earlier : Item) → clashes earlier item ≡ false) → list_any (λ earlier. clashes earlier.1 item) lines ≡ false
  never [] item h = refl
  never (line ∷ lines) item h = rw (h line.1) (never lines item h)

  session-follows : (name inst : List ℕ) → IsKept (session_line said name inst) next → Follows said next
  unfolding session_line
  session-follows name inst kept =
      let sessions : List (List ℕ) = said.sessions ++ name ∷ [] in
      let homes : List ℕ = said.homes ++ number inst ∷ [] in
      let more : length sessions ≡ length said.sessions + 1 = length-append said.sessions (name ∷ []) in
      let longer : length homes ≡ length said.homes + 1 = length-append said.homes (number inst ∷ []) in
      let tests = both (is_inst said inst) (nat_lt (length said.sessions) session_limit) kept.in_range in
      let there : number inst < instances_so_far said = below _ _ tests.0 in
      let room : length said.sessions < 1024 = below _ _ tests.1 in
      let item : Item = items.Session (length said.sessions) (number inst) in
      kept-follows said next _ kept (record {
        lines = refl;
        sound = λ line later sound.
            let named = sound.named in
            with_item-sound line said sessions homes item later sound (record {
              more = record { fewer = omega arith; same = λ k h. slice_get-before said.homes (number inst ∷ []) k h };
              named = omega arith;
              few = omega arith;
              within = (rw named (slice_get-last said.homes (number inst)), omega arith, there);
              opened = named;
              count = sym longer;
              apart = never said.wave item (λ earlier. refl);
            });
      })

  open_below : (names : List (List ℕ)) (name : List ℕ) → list_any (bytes_eq name) names ≡ true → position_or_len (bytes_eq name) names < length names
  open_below [] name h = absurd (cc)
  open_below (first ∷ names) name h = by (bytes_eq name first) refl (open_below names name)
    where
      by : (b : Bool) → bytes_eq name first ≡ b → (list_any (bytes_eq name) names ≡ true → position_or_len (bytes_eq name) names < length names) → position_or_len (bytes_eq name) (first ∷ names) < length (first ∷ names)
      by true e more = rw e (omega arith)
      by false e more = rw e (omega (arith, more (rw e at h)))

  statement-follows : (name : List ℕ) (what : Stmt) → is_open said name ≡ true → HasRowsBelow (8 * blocks_so_far said) what → Follows said (with_item said (items.Stmt (session_number said name) what))
  statement-follows name what there rows = record {
    lines = refl;
    sound = λ line later sound.
        let named = sound.named in
        let item : Item = items.Stmt (session_number said name) what in
        let is_there : session_number said name < length said.homes = omega (arith, open_below said.sessions name there) in
        with_item-sound line said said.sessions said.homes item later sound
        (record { more = same-start; named = named; few = sound.few; within = (is_there, rows); opened = is_there; count = refl; apart = never said.wave item (λ earlier. refl) });
  }

  get-follows : (name row : List ℕ) → IsKept (get_line said name row) next → Follows said next
  unfolding get_line
  get-follows name row kept = kept-follows said next _ kept (statement-follows name _ kept.in_session (below _ _ kept.in_range))

  scan-follows : (name first last : List ℕ) → IsKept (scan_line said name first last) next → Follows said next
  unfolding scan_line
  scan-follows name first last kept =
      let tests = both (is_row said last) (nat_le (number first) (number last)) kept.in_range in
      kept-follows said next _ kept (statement-follows name _ kept.in_session (leb-true _ _ tests.1, below _ _ tests.0))

  put-follows : (name row value : List ℕ) → IsKept (put_line said name row value) next → Follows said next
  unfolding put_line
  put-follows name row value kept = kept-follows said next _ kept (statement-follows name _ kept.in_session (below _ _ kept.in_range, tt))

  add-follows : (name row by : List ℕ) → IsKept (add_line said name row by) next → Follows said next
  unfolding add_line
  add-follows name row by kept = kept-follows said next _ kept (statement-follows name _ kept.in_session (below _ _ kept.in_range))

  del-follows : (name row : List ℕ) → IsKept (del_line said name row) next → Follows said next
  unfolding del_line
  del-follows name row kept = kept-follows said next _ kept (statement-follows name _ kept.in_session (below _ _ kept.in_range))

  lock-follows : (name row : List ℕ) → IsKept (lock_line said name row) next → Follows said next
  unfolding lock_line
  lock-follows name row kept = kept-follows said next _ kept (statement-follows name _ kept.in_session (below _ _ kept.in_range))

  commit-follows : (name : List ℕ) → IsKept (commit_line said name) next → Follows said next
  unfolding commit_line
  commit-follows name kept = kept-follows said next _ kept (statement-follows name _ kept.in_session tt)

  rollback-follows : (name : List ℕ) → IsKept (rollback_line said name) next → Follows said next
  unfolding rollback_line
  rollback-follows name kept = kept-follows said next _ kept (statement-follows name _ kept.in_session tt)

  savepoint-follows : (name mark : List ℕ) → IsKept (savepoint_line said name mark) next → Follows said next
  unfolding savepoint_line
  savepoint-follows name mark kept = kept-follows said next _ kept (statement-follows name _ kept.in_session tt)

  rollback_to-follows : (name mark : List ℕ) → IsKept (rollback_to_line said name mark) next → Follows said next
  unfolding rollback_to_line
  rollback_to-follows name mark kept = kept-follows said next _ kept (statement-follows name _ kept.in_session tt)

  one_keep : (numbers : Bool) (keep : List ℕ) → (numbers && true && list_all is_keep (keep ∷ [])) ≡ true → is_keep keep ≡ true
  one_keep numbers keep h =
      let keeps = both (numbers && true) (list_all is_keep (keep ∷ [])) h in
      (both (is_keep keep) true keeps.1).0

  crash_after-follows : (inst steps keep : List ℕ) → IsKept (crash_after_line said inst steps keep) next → Follows said next
  unfolding crash_after_line
  crash_after-follows inst steps keep kept =
      let tests = both (is_inst said inst) (nat_le (number steps) step_limit) kept.in_range in
      let fits = keep-fits keep (one_keep (list_all is_number (inst ∷ steps ∷ [])) keep kept.spelled) in
      kept-follows said next _ kept (item-follows _ (below _ _ tests.0, leb-true _ _ tests.1, fits) tt refl (not_yes _ kept.once))

  crash_mark-follows : (inst keep : List ℕ) → IsKept (crash_mark_line said inst keep) next → Follows said next
  unfolding crash_mark_line
  crash_mark-follows inst keep kept =
      let fits = keep-fits keep (one_keep (list_all is_number (inst ∷ [])) keep kept.spelled) in
      kept-follows said next _ kept (item-follows _ (below _ _ kept.in_range, fits) tt refl (not_yes _ kept.once))

  start-follows : (inst : List ℕ) → IsKept (start_line said inst) next → Follows said next
  unfolding start_line
  start-follows inst kept = kept-follows said next _ kept (item-follows _ (below _ _ kept.in_range) tt refl (not_yes _ kept.once))

  remaster-follows : (bucket inst : List ℕ) → IsKept (remaster_line said bucket inst) next → Follows said next
  unfolding remaster_line
  remaster-follows bucket inst kept =
      let tests = both (nat_lt (number bucket) bucket_count) (is_inst said inst) kept.in_range in
      let item : Item = items.Remaster (number bucket) (number inst) in
      kept-follows said next _ kept (item-follows item (below _ _ tests.0, below _ _ tests.1) tt refl (never said.wave item (λ earlier. refl)))

  checkpoint-follows : (inst : List ℕ) → IsKept (checkpoint_line said inst) next → Follows said next
  unfolding checkpoint_line
  checkpoint-follows inst kept =
      let item : Item = items.Checkpoint (number inst) in
      kept-follows said next _ kept (item-follows item (below _ _ kept.in_range) tt refl (never said.wave item (λ earlier. refl)))

  differ : (a b : ℕ) → not (a == b) ≡ true → a ≢ b
  differ a b h = let no = not_yes (a == b) h in search (rules, nat_tests, no)

  hold-follows : (reader until : List ℕ) → IsKept (hold_line said reader until) next → Follows said next
  unfolding hold_line
  hold-follows reader until kept =
      let r = session_number said reader in
      let m = session_number said until in
      let item : Item = items.Hold r m in
      let with_apart = both (is_open said reader && is_open said until && not (r == m) && are_together said r m) (is_apart said item) kept.in_session in
      let with_home = both (is_open said reader && is_open said until && not (r == m)) (are_together said r m) with_apart.0 in
      let with_other = both (is_open said reader && is_open said until) (not (r == m)) with_home.0 in
      let are_open = both (is_open said reader) (is_open said until) with_other.0 in
      kept-follows said next _ kept (record {
        lines = refl;
        sound = λ line later sound.
            let named = sound.named in
            let reader_there : r < length said.homes = omega (arith, open_below said.sessions reader are_open.0) in
            let until_there : m < length said.homes = omega (arith, open_below said.sessions until are_open.1) in
            with_item-sound line said said.sessions said.homes item later sound (record {
              more = same-start;
              named = named;
              few = sound.few;
              within = (reader_there, until_there, differ r m with_other.1, with_home.1);
              opened = (reader_there, until_there);
              count = refl;
              apart = not_yes _ with_apart.1;
            });
      })

  -- whichever form a line has
  pub form-follows : (ws : List (List ℕ)) → AllByRecursion (λ form. IsKept form.1 next → Follows said next) (forms_of said ws)
  form-follows [] = tt
  form-follows (a ∷ []) = (go-follows, tt)
  form-follows (a ∷ b ∷ []) =
      (instances-follows b, (blocks-follows b, (undo-follows b, (cache-follows b, (seed-follows b, (start-follows b, (checkpoint-follows b, (commit-follows _, (rollback-follows _, tt)))))))))
  form-follows (a ∷ b ∷ c ∷ []) = (get-follows _ c, (del-follows _ c, (lock-follows _ c, (savepoint-follows _ c, tt))))
  form-follows (a ∷ b ∷ c ∷ d ∷ []) =
      (session-follows b d, (remaster-follows b d, (hold-follows b d, (scan-follows _ c d, (put-follows _ c d, (add-follows _ c d, (rollback_to-follows _ d, tt)))))))
  form-follows (a ∷ b ∷ c ∷ d ∷ e ∷ []) = tt
  form-follows (a ∷ b ∷ c ∷ d ∷ e ∷ f ∷ []) = (crash_after-follows b d f, (crash_mark-follows b f, tt))
  form-follows (a ∷ b ∷ c ∷ d ∷ e ∷ f ∷ g ∷ more) = tt
