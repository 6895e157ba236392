-- Words that the program knows give an order.
use Rattle.std.proofs.Common.{◌≡◌, ◌&&◌, ◌||◌, ◌++◌, ◌-◌, ◌^◌, not, is_some, cond, ℕ, zero, suc, true, false, refl, sym, ap, List, [], ◌∷◌, Bool, length, Option, Some, None, codes, option_map, subst, true≢false, ◌∙◌}
use Rattle.std.specs.Prelude.{if◌then◌else◌, find, drop, encode_utf8, slice_get, fold, option_and_then, unwrap_or}
use Rattle.std.specs.Option.{option_map_or}
use Rattle.std.specs.Str.{bytes_eq, chars}
use Rattle.std.specs.List.{list_all}
use Rattle.clap.proofs.WalkLemmas.{both}
use Rattle.clap.specs.Facts.{explicit_source}
use Rattle.clap.specs.Lexer.{long_of, short_of}
use Rattle.clap.specs.Walk.{stop_after, Held, Names, Outcome, Row, Rule, Step, Text, Waiting, Walk, answers_to, arg_by_id, arg_by_index, arg_by_long, arg_by_short, attached_value, is_pending, next, trailing, subcommand, value, option, idle, positional, done, waits, plain, refused, takes_several, takes_values, walk, walk_from, walked, walked_from, finished, nothing_held, settled, settled_rows, used, used_by_id, reacted, at_row, more_values, with_values, with_default, default_rows, reading_by, option_met, flag_met, long_met, short_met, bundle_step, bundle_met, bundle, option_word, plain_word, after_flag, long_or_other, short_or_plain, subcommand_or_other, subcommand_met, word_met, after_step, to_positional, has_row, without, first_of}
use Rattle.clap.specs.Simple.{Shape, entered, label_of, names_of, built, built_leaf, inherited, with_leaf_noted, marked_built, with_index, filled, rows_at}
use Rattle.clap.specs.Takes.{bundle_step_passes, entered_passes, flag_word_passes, flags_pass, is_given, level_passes, long_passes, option_passes, other_passes, positional_passes, react_passes, settle_passes, short_passes, step_passes, takes, turn_passes, use_passes, walk_passes, word_passes}
use Rattle.clap.specs.declared.parser.matches.ValueSource.{ValueSource}
use Rattle.clap.specs.declared.parser.matches.ValueSource.TheVariants.{CommandLine}
use Rattle.clap.specs.declared.builder.value_parser.Reading.{Reading}
use Rattle.cli_words.specs.Command.{audit_shape, disk_rule, load_shape, place_rule, rac_app, run_shape}
use Rattle.cli_words.specs.Numbers.{number_up_to}
use Rattle.cli_words.specs.Orders.{are_known, is_misspelled, misspells, order_from, order_in}
use Rattle.cli_words.specs.declared.order.Order.{Order}
use Rattle.cli_words.specs.declared.order.Order.TheVariants.{Load, Audit}
use Rattle.cli_words.proofs.Taken.{pass_both}

-- ---- each row has a value

abbrev is_some_text : List Text → Bool
is_some_text [] = false
is_some_text (v ∷ vs) = true

abbrev is_full : Row → Bool
is_full r = is_some_text r.values

abbrev Full : List Row → Type 0
Full rows = list_all is_full rows ≡ true

more_full : (xs ys : List Row) → Full xs → Full ys → Full (xs ++ ys)
more_full [] ys f g = g
more_full (x ∷ xs) ys f g =
    let parts = both (is_full x) _ f in
    pass_both (is_full x) _ parts.0 (more_full xs ys parts.1 g)

if_full : (b : Bool) (xs ys : List Row) → Full xs → Full ys → Full (if b then xs else ys)
if_full true xs ys f g = f
if_full false xs ys f g = g

row_full : (id : Text) (change : Row → List Row) (missing rows : List Row) → ((r : Row) → is_full r ≡ true → Full (change r))
    → Full missing → Full rows → Full (at_row id change missing rows)
row_full id change missing [] each none f = none
row_full id change missing (r ∷ rows) each none f =
    let parts = both (is_full r) _ f in
    if_full (bytes_eq r.id id) _ _ (more_full (change r) rows (each r parts.0) parts.1)
    (pass_both (is_full r) _ parts.0 (row_full id change missing rows each none parts.1))

longer : (xs ys : List Text) → is_some_text xs ≡ true → is_some_text (xs ++ ys) ≡ true
longer [] ys e = absurd (true≢false (sym e))
longer (x ∷ xs) ys e = refl

values_full : (id : Text) (how : Reading) (s : ValueSource) (values : List Text) (rows : List Row) → is_some_text values ≡ true → Full rows
    → Full (with_values id how s values rows)
values_full id how s values rows e f =
    row_full id (more_values s values) _ rows (λ r is. pass_both _ true (longer r.values values is) refl) (pass_both _ true e refl) f

without_full : (id : Text) (rows : List Row) → Full rows → Full (without id rows)
without_full id rows f = row_full id (λ _. []) [] rows (λ r is. refl) refl f

-- ---- what a use leaves

-- a use of the argument that passes leaves each row with a value
abbrev Keeps : Bool → Rule → Type 0
Keeps again a = (values : List Text) (rows : List Row) → use_passes again a values rows ≡ true → Full rows → Full (used a values rows)

-- the same, of each argument that a search finds
abbrev AllKeep : Bool → List Rule → Type 0
AllKeep again c = (p : Rule → Bool) (a : Rule) → find p c ≡ Some a → Keeps again a

module _ (c : List Rule) (again : Bool) (keep : AllKeep again c) where
  by_id_full : (found : Option Rule) (values : List Text) (rows : List Row) → ((a : Rule) → found ≡ Some a → Keeps again a)
      → option_map_or (λ a. use_passes again a values rows) found true ≡ true → Full rows → Full (used_by_id found values rows)
  by_id_full None values rows each e f = f
  by_id_full (Some a) values rows each e f = each a refl values rows e f

  pending_full : (pending : Option (Text × List Text)) (rows : List Row)
      → option_map_or (λ p. option_map_or (λ a. use_passes again a p.1 rows) (arg_by_id c p.0) true) pending true ≡ true
      → Full rows → Full (settled_rows c pending rows)
  pending_full None rows e f = f
  pending_full (Some p) rows e f = by_id_full (arg_by_id c p.0) p.1 rows (keep _) e f

  settled_full : (h : Held) → settle_passes c again h ≡ true → Full h.rows → Full (settled c h).rows
  settled_full h e f = pending_full h.pending h.rows e f

  reacted_full : (a : Rule) (values : List Text) (h : Held) → Keeps again a → react_passes c again a values h ≡ true → Full h.rows
      → Full (reacted c a values h).rows
  reacted_full a values h keeps e f =
      let parts = both (settle_passes c again h) _ e in
      keeps values (settled c h).rows parts.1 (settled_full h parts.0 f)

  option_full : (a : Rule) (v : Option Text) (h : Held) → Keeps again a → option_passes c again a v h ≡ true → Full h.rows
      → Full (option_met c a v h).0.rows
  option_full a (Some v) h keeps e f = reacted_full a (v ∷ []) h keeps e f
  option_full a None h keeps e f = settled_full h e f

  flag_full : (a : Rule) (v : Option Text) (h : Held) → Keeps again a → (not (is_some v) && react_passes c again a [] h) ≡ true → Full h.rows
      → Full (flag_met c a v h).0.rows
  flag_full a (Some v) h keeps e f = f
  flag_full a None h keeps e f = reacted_full a [] h keeps e f

  kind_full : (b : Bool) (a : Rule) (v : Option Text) (h : Held) → Keeps again a
      → (if b then option_passes c again a v h else (not (is_some v) && react_passes c again a [] h)) ≡ true → Full h.rows
      → Full (if b then option_met c a v h else flag_met c a v h).0.rows
  kind_full true a v h keeps e f = option_full a v h keeps e f
  kind_full false a v h keeps e f = flag_full a v h keeps e f

  long_full : (found : Option Rule) (v : Option Text) (h : Held) → ((a : Rule) → found ≡ Some a → Keeps again a)
      → long_passes c again found v h ≡ true → Full h.rows → Full (long_met c found v h).0.rows
  long_full None v h each e f = f
  long_full (Some a) v h each e f = kind_full (takes_values a) a v h (each a refl) e f

  in_bundle_full : (b : Bool) (a : Rule) (rest : Text) (h : Held) (after : Held → Held × Outcome) (passes : Held → Bool) → Keeps again a
      → ((g : Held) → passes g ≡ true → Full g.rows → Full (after g).0.rows)
      → (if b then option_passes c again a (attached_value rest) h else (react_passes c again a [] h && passes (reacted c a [] h))) ≡ true
      → Full h.rows → Full (if b then option_met c a (attached_value rest) h else after (reacted c a [] h)).0.rows
  in_bundle_full true a rest h after passes keeps each e f = option_full a (attached_value rest) h keeps e f
  in_bundle_full false a rest h after passes keeps each e f =
      let parts = both (react_passes c again a [] h) _ e in
      each (reacted c a [] h) parts.1 (reacted_full a [] h keeps parts.0 f)

  short_full : (found : Option Rule) (rest : Text) (h : Held) (after : Held → Held × Outcome) (passes : Held → Bool)
      → ((a : Rule) → found ≡ Some a → Keeps again a)
      → ((g : Held) → passes g ≡ true → Full g.rows → Full (after g).0.rows)
      → short_passes c again found rest h passes ≡ true → Full h.rows → Full (short_met c found rest h after).0.rows
  short_full None rest h after passes keeps each e f = f
  short_full (Some a) rest h after passes keeps each e f = in_bundle_full (takes_values a) a rest h after passes (keeps a refl) each e f

  char_full : (x : Option ℕ) (flags : Text) (skip : ℕ) (so_far : Outcome) (h : Held) (after : Text → ℕ → Outcome → Held → Held × Outcome)
      (passes : Text → ℕ → Held → Bool)
      → ((t : Text) (k : ℕ) (o : Outcome) (g : Held) → passes t k g ≡ true → Full g.rows → Full (after t k o g).0.rows)
      → bundle_step_passes c again x flags skip h passes ≡ true → Full h.rows → Full (bundle_step c x flags skip so_far h after).0.rows
  char_full None flags skip so_far h after passes each e f = f
  char_full (Some x) flags zero so_far h after passes each e f =
      let rest : Text = drop (length (encode_utf8 x)) flags in
      short_full (arg_by_short c x) rest h (after rest 0 done) (passes rest 0) (keep _) (λ g. each rest 0 done g) e f
  char_full (Some x) flags (suc skip) so_far h after passes each e f = each _ skip so_far h e f

  bundle_full : (k : ℕ) (flags : Text) (skip : ℕ) (so_far : Outcome) (h : Held) → flags_pass c again k flags skip h ≡ true → Full h.rows
      → Full (bundle_met c k flags skip so_far h).0.rows
  unfolding bundle_met flags_pass
  bundle_full zero flags skip so_far h e f = f
  bundle_full (suc k) flags skip so_far h e f =
      char_full (slice_get (chars flags) 0) flags skip so_far h (bundle_met c k) (flags_pass c again k) (λ t n o g. bundle_full k t n o g) e f

  -- ---- a word

  pushed_full : (found : Option Rule) (id word : Text) (h : Held) → Full h.rows → Full (option_word found id word h).0.rows
  pushed_full None id word h f = f
  pushed_full (Some a) id word h f = f

  plain_full : (waiting : Waiting) (word : Text) (h : Held) → Full h.rows → Full (plain_word c waiting word h).0.rows
  plain_full (option id) word h f = pushed_full (arg_by_id c id) id word h f
  plain_full idle word h f = f
  plain_full positional word h f = f

  after_full : (waiting : Waiting) (word : Text) (h : Held) (o : Outcome) → Full h.rows → Full (after_flag c waiting word h o).0.rows
  after_full waiting word h done f = f
  after_full waiting word h (waits id) f = f
  after_full waiting word h plain f = plain_full waiting word h f
  after_full waiting word h refused f = plain_full waiting word h f

  short_word_full : (waiting : Waiting) (word : Text) (flags : Option Text) (h : Held)
      → option_map_or (λ t. flags_pass c again (length t) t h.skip (record h { skip = 0 })) flags true ≡ true
      → Full h.rows → Full (short_or_plain c waiting word flags h).0.rows
  short_word_full waiting word (Some flags) h e f =
      after_full waiting word (bundle c flags h).0 (bundle c flags h).1
      (bundle_full (length flags) flags h.skip plain (record h { skip = 0 }) e f)
  short_word_full waiting word None h e f = plain_full waiting word h f

  flag_word_full : (waiting : Waiting) (word : Text) (p : Option (Text × Option Text)) (h : Held) → flag_word_passes c again p word h ≡ true
      → Full h.rows → Full (long_or_other c waiting word p h).0.rows
  flag_word_full waiting word (Some p) h e f =
      let met : Held × Outcome = long_met c (arg_by_long c p.0) p.1 h in
      after_full waiting word met.0 met.1 (long_full (arg_by_long c p.0) p.1 h (keep _) e f)
  flag_word_full waiting word None h e f = short_word_full waiting word (short_of word) h e f

  dashes_full : (b : Bool) (waiting : Waiting) (position : ℕ) (word : Text) (h : Held) → (b || flag_word_passes c again (long_of word) word h) ≡ true
      → Full h.rows → Full (if b then (h, trailing position) else long_or_other c waiting word (long_of word) h).0.rows
  dashes_full true waiting position word h e f = f
  dashes_full false waiting position word h e f = flag_word_full waiting word (long_of word) h e f

  -- ---- where the word goes

  held_full : (b : Bool) (a : Rule) (word : Text) (h : Held) → (b || settle_passes c again h) ≡ true → Full h.rows
      → Full (if b then h else settled c h).rows
  held_full true a word h e f = f
  held_full false a word h e f = settled_full h e f

  place_full : (found : Option Rule) (word : Text) (w : Walk) (h : Held)
      → option_map_or (λ a. positional_passes c again a h) found false ≡ true → Full h.rows → Full (to_positional c found word w h).held.rows
  place_full None word w h e f = f
  place_full (Some a) word w h e f = held_full (is_pending a h.pending && takes_several a) a word h e f

  default_full : (rules : List Rule) (rows : List Row) → Full rows → Full (fold with_default rows rules)
  default_full [] rows f = f
  default_full (a ∷ rules) rows f = default_full rules (with_default rows a) (if_full (has_row a.id rows) _ _ f (given_full a.defaults))
    where
      given_full : (values : List Text) → Full (default_rows a.id (reading_by a) values rows)
      given_full [] = f
      given_full (v ∷ vs) = values_full a.id (reading_by a) _ (v ∷ vs) rows refl f

-- ---- a level

step_full : (s : Shape) (keep : AllKeep s.args_override_self s.rules) (word : Text) (w : Walk) (h : Held) (step : Step)
    → step_passes s w.position h step ≡ true → Full h.rows → Full (after_step s.rules word w h step).held.rows
step_full s keep word w h (next waiting) e f = f
step_full s keep word w h (trailing position) e f = f
step_full s keep word w h (subcommand name) e f = f
step_full s keep word w h value e f = place_full s.rules s.args_override_self keep (arg_by_index s.rules w.position) word w h e f

other_full : (s : Shape) (keep : AllKeep s.args_override_self s.rules) (name : Option Text) (waiting : Waiting) (position : ℕ) (word : Text) (h : Held)
    → other_passes s name word h ≡ true → Full h.rows → Full (subcommand_or_other s.rules name waiting position word h).0.rows
other_full s keep (Some name) waiting position word h e f = f
other_full s keep None waiting position word h e f =
    dashes_full s.rules s.args_override_self keep (bytes_eq word (45 ∷ 45 ∷ [])) waiting position word h e f

word_full : (s : Shape) (keep : AllKeep s.args_override_self s.rules) (names : Names) (is_trailing : Bool) (waiting : Waiting) (position : ℕ) (word : Text)
    (h : Held) → word_passes s names is_trailing waiting word h ≡ true → Full h.rows → Full (word_met s.rules names is_trailing waiting position word h).0.rows
word_full s keep names true waiting position word h e f = f
word_full s keep names false waiting position word h e f = other_full s keep (subcommand_met names waiting word) waiting position word h e f

turn_full : (s : Shape) (keep : AllKeep s.args_override_self s.rules) (names : Names) (stopped : Option (Text × List Text)) (w : Walk) (word : Text)
    → (is_some stopped || (word_passes s names w.is_trailing w.waiting word w.held
    && step_passes s w.position (word_met s.rules names w.is_trailing w.waiting w.position word w.held).0
    (word_met s.rules names w.is_trailing w.waiting w.position word w.held).1)) ≡ true
    → Full w.held.rows → Full (walked_from s.rules names stopped w word).held.rows
turn_full s keep names (Some p) w word e f = f
turn_full s keep names None w word e f =
    let met : Held × Step = word_met s.rules names w.is_trailing w.waiting w.position word w.held in
    let parts = both (word_passes s names w.is_trailing w.waiting word w.held) _ e in
    step_full s keep word w met.0 met.1 parts.1 (word_full s keep names w.is_trailing w.waiting w.position word w.held parts.0 f)

walk_full : (s : Shape) (keep : AllKeep s.args_override_self s.rules) (names : Names) (words : List Text) (w : Walk) → walk_passes s names w words ≡ true
    → Full w.held.rows → Full (fold (walked s.rules names) w words).held.rows
unfolding walked walk_passes
walk_full s keep names [] w e f = f
walk_full s keep names (word ∷ words) w e f =
    let parts = both (turn_passes s names w word) _ e in
    walk_full s keep names words (walked s.rules names w word) parts.1 (turn_full s keep names w.stopped w word parts.0 f)

level_full : (s : Shape) (keep : AllKeep s.args_override_self s.rules) (names : Names) (words : List Text) (has : Bool)
    → level_passes s names nothing_held words has ≡ true → Full (finished s.rules (walk s.rules names nothing_held words).held)
level_full s keep names words has e =
    let end : Held = (walk s.rules names nothing_held words).held in
    let parts = both (walk_passes s names (walk_from nothing_held) words) _ e in
    let settles = both (settle_passes s.rules s.args_override_self end) _ parts.1 in
    default_full s.rules s.args_override_self keep s.rules (settled s.rules end).rows
    (settled_full s.rules s.args_override_self keep end settles.0 (walk_full s keep names words (walk_from nothing_held) parts.0 refl))

-- ---- the folder of `audit`

first_text : (values : List Text) → is_some_text values ≡ true → is_some (slice_get values 0) ≡ true
first_text [] e = e
first_text (v ∷ vs) e = refl

first_given : (b : Bool) (id : Text) (r : Row) (rows : List Row) → is_full r ≡ true → (is_given id rows ≡ true → is_some (first_of id rows) ≡ true)
    → option_map_or (λ q. explicit_source q.source) (cond b (Some r) (find (λ q. bytes_eq q.id id) rows)) false ≡ true
    → is_some (option_and_then (λ q. slice_get q.values 0) (cond b (Some r) (find (λ q. bytes_eq q.id id) rows))) ≡ true
first_given true id r rows full more e = first_text r.values full
first_given false id r rows full more e = more e

given_text : (id : Text) (rows : List Row) → Full rows → is_given id rows ≡ true → is_some (first_of id rows) ≡ true
given_text id [] f e = e
given_text id (r ∷ rows) f e =
    let parts = both (is_full r) _ f in
    first_given (bytes_eq r.id id) id r rows parts.0 (given_text id rows parts.1) e

-- the subcommands, once built
abbrev built_run : Shape
built_run = built_leaf (inherited (with_leaf_noted (marked_built rac_app.top)) run_shape)

abbrev built_load : Shape
built_load = built_leaf (inherited (with_leaf_noted (marked_built rac_app.top)) load_shape)

abbrev built_audit : Shape
built_audit = built_leaf (inherited (with_leaf_noted (marked_built rac_app.top)) audit_shape)

these_are_built : (built rac_app).subs ≡ built_run ∷ built_load ∷ built_audit ∷ []
these_are_built = refl

-- the option `--disk`, once built
abbrev built_disk : Bool → Rule
built_disk is_required = with_index 1 (filled (disk_rule is_required))

-- an argument in its place, once built
abbrev built_place : ℕ → Text → Rule
built_place at id = with_index at (filled (place_rule id))

disk_keeps : (is_required : Bool) → Keeps false (built_disk is_required)
disk_keeps is_required [] rows e f = absurd (true≢false (sym e))
disk_keeps is_required (v ∷ vs) rows e f =
    values_full (codes "disk") (reading_by (built_disk is_required)) CommandLine (v ∷ vs) (without (codes "disk") rows) refl (without_full (codes "disk") rows f)

place_keeps : (at : ℕ) (id : Text) → Keeps false (built_place at id)
place_keeps at id [] rows e f = absurd (true≢false (sym e))
place_keeps at id (v ∷ vs) rows e f =
    values_full id (reading_by (built_place at id)) CommandLine (v ∷ vs) (without id rows) refl (without_full id rows f)

same_keeps : (a b : Rule) → Keeps false a → ◌≡◌ {A = Option Rule} (Some a) (Some b) → Keeps false b
same_keeps a b keeps is = subst (λ (r : Rule). Keeps false r) (ap (λ (o : Option Rule). unwrap_or o a) is) keeps

none_keeps : (a : Rule) → ◌≡◌ {A = Option Rule} None (Some a) → Keeps false a
none_keeps a is = absurd (true≢false (sym (ap is_some is)))

only_disk : (b : Bool) (a : Rule) → cond b (Some (built_disk true)) None ≡ Some a → Keeps false a
only_disk true a is = same_keeps (built_disk true) a (disk_keeps true) is
only_disk false a is = none_keeps a is

audit_keeps : AllKeep built_audit.args_override_self built_audit.rules
audit_keeps p a is = only_disk (p (built_disk true)) a is

audit_has_folder : (words : List Text) → level_passes built_audit [] nothing_held words false ≡ true
    → is_some (first_of (codes "disk") (rows_at built_audit words).1) ≡ true
audit_has_folder words e =
    let end : Held = (walk built_audit.rules [] nothing_held words).held in
    let walks = both (walk_passes built_audit [] (walk_from nothing_held) words) _ e in
    let settles = both (settle_passes built_audit.rules false end) _ walks.1 in
    let is_there : (is_given (codes "disk") (finished built_audit.rules end) && true) ≡ true = settles.1 in
    given_text (codes "disk") (finished built_audit.rules end) (level_full built_audit audit_keeps [] words false e)
    (both (is_given (codes "disk") (finished built_audit.rules end)) true is_there).0

-- ---- the numbers of `load`

one_of_three : (seed rounds disk : Bool) (a : Rule)
    → cond seed (Some (built_place 1 (codes "seed"))) (cond rounds (Some (built_place 2 (codes "rounds"))) (cond disk (Some (built_disk false)) None)) ≡ Some a
    → Keeps false a
one_of_three true rounds disk a is = same_keeps (built_place 1 (codes "seed")) a (place_keeps 1 (codes "seed")) is
one_of_three false true disk a is = same_keeps (built_place 2 (codes "rounds")) a (place_keeps 2 (codes "rounds")) is
one_of_three false false true a is = same_keeps (built_disk false) a (disk_keeps false) is
one_of_three false false false a is = none_keeps a is

load_keeps : AllKeep built_load.args_override_self built_load.rules
load_keeps p a is = one_of_three (p (built_place 1 (codes "seed"))) (p (built_place 2 (codes "rounds"))) (p (built_disk false)) a is

load_has_numbers : (words : List Text) → level_passes built_load [] nothing_held words false ≡ true
    → (is_some (first_of (codes "seed") (rows_at built_load words).1) ≡ true) × (is_some (first_of (codes "rounds") (rows_at built_load words).1) ≡ true)
load_has_numbers words e =
    let end : Held = (walk built_load.rules [] nothing_held words).held in
    let rows : List Row = finished built_load.rules end in
    let walks = both (walk_passes built_load [] (walk_from nothing_held) words) _ e in
    let settles = both (settle_passes built_load.rules false end) _ walks.1 in
    let are_there : (is_given (codes "seed") rows && (is_given (codes "rounds") rows && true)) ≡ true = settles.1 in
    let all_full = level_full built_load load_keeps [] words false e in
    let first = both (is_given (codes "seed") rows) _ are_there in
    (given_text (codes "seed") rows all_full first.0, given_text (codes "rounds") rows all_full (both (is_given (codes "rounds") rows) true first.1).0)

both_read : (seed rounds : Option ℕ) (folder : Option Text) → not (not (is_some seed) || not (is_some rounds)) ≡ true
    → is_some (option_and_then (λ s. option_map (λ n. Load s n folder) rounds) seed) ≡ true
both_read (Some s) (Some n) folder e = refl
both_read (Some s) None folder e = e
both_read None rounds folder e = e

both_spelled : (seed rounds folder : Option Text) → is_some seed ≡ true → is_some rounds ≡ true
    → not (is_misspelled (2 ^ 63 - 1) seed || is_misspelled 700 rounds) ≡ true
    → is_some (option_and_then (λ s. option_map (λ n. Load s n folder) (option_and_then (number_up_to 700) rounds)) (option_and_then (number_up_to (2 ^ 63 - 1)) seed)) ≡ true
both_spelled (Some seed) (Some rounds) folder p q e = both_read (number_up_to (2 ^ 63 - 1) seed) (number_up_to 700 rounds) folder e
both_spelled (Some seed) None folder p q e = absurd (true≢false (sym q))
both_spelled None rounds folder p q e = absurd (true≢false (sym p))

-- ---- the order

abbrev told_by : Option (Text × List Row) → Option Order
told_by sub = option_and_then (λ p. order_from p.0 p.1) sub

abbrev is_spelled : Option (Text × List Row) → Bool
is_spelled sub = not (option_map_or (λ p. misspells p.0 p.1) sub false)

audit_told : (folder : Option Text) → is_some folder ≡ true → is_some (option_map (λ f. Audit f) folder) ≡ true
audit_told None e = e
audit_told (Some f) e = refl

abbrev one_named : Bool → Bool → Bool → Option Shape
one_named run load audit = cond run (Some built_run) (cond load (Some built_load) (cond audit (Some built_audit) None))

-- whichever of the three the word names
each_told : (run load audit : Bool) (words : List Text)
    → option_map_or (λ s. level_passes s [] nothing_held words false) (one_named run load audit) true ≡ true
    → is_some (option_map (λ s. rows_at s words) (one_named run load audit)) ≡ true
    → is_spelled (option_map (λ s. rows_at s words) (one_named run load audit)) ≡ true
    → is_some (told_by (option_map (λ s. rows_at s words) (one_named run load audit))) ≡ true
each_told true load audit words e has spelled = refl
each_told false true audit words e has spelled =
    let there = load_has_numbers words e in
    both_spelled _ _ _ there.0 there.1 spelled
each_told false false true words e has spelled = audit_told _ (audit_has_folder words e)
each_told false false false words e has spelled = has

entered_told : (stop : Option (Text × List Text)) → entered_passes (built rac_app) stop ≡ true → is_some (entered (built rac_app) stop) ≡ true
    → is_spelled (entered (built rac_app) stop) ≡ true → is_some (told_by (entered (built rac_app) stop)) ≡ true
entered_told None e has spelled = has
entered_told (Some p) e has spelled =
    each_told (answers_to p.0 (label_of built_run)) (answers_to p.0 (label_of built_load)) (answers_to p.0 (label_of built_audit)) p.1 e has spelled

-- a subcommand has to be there
needs_one : (words : List Text) (has : Bool) → level_passes (built rac_app).top (names_of (built rac_app)) nothing_held words has ≡ true → has ≡ true
needs_one words has e =
    let top : Shape = (built rac_app).top in
    let end : Held = (walk top.rules (names_of (built rac_app)) nothing_held words).held in
    let walks = both (walk_passes top (names_of (built rac_app)) (walk_from nothing_held) words) _ e in
    let settles = both (settle_passes top.rules false end) _ walks.1 in
    let has_it : (has && true) ≡ true = settles.1 in
    (both has true has_it).0

abbrev pub told : Bool → Option (Text × List Row) → Option Order
told is_taken sub = if is_taken then told_by sub else None

-- the words that the program knows give an order
pub known_is_told : (words : List Text) → are_known words ≡ true → is_some (order_in words) ≡ true
known_is_told words known =
    let stop : Option (Text × List Text) = stop_after (built rac_app).top.rules (names_of (built rac_app)) words in
    let halves = both (takes rac_app words) _ known in
    let parts = both (entered_passes (built rac_app) stop) _ halves.0 in
    ap (λ (b : Bool). is_some (told b (entered (built rac_app) stop))) halves.0
    ∙ entered_told stop parts.0 (needs_one words (is_some (entered (built rac_app) stop)) parts.1) halves.1
