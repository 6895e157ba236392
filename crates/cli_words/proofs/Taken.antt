-- Where clap's definitions find no fault, they take the words.
use Rattle.std.proofs.Common.{◌≡◌, ◌&&◌, ◌||◌, ◌==◌, ◌⊎◌, not, inl, inr, is_some, cond, ℕ, zero, suc, true, false, refl, sym, ap, arith, List, [], ◌∷◌, Bool, length, nat_le, nat_lt, Option, Some, None, true≢false}
use Rattle.std.specs.Prelude.{if◌then◌else◌, find, drop, encode_utf8, slice_get}
use Rattle.std.specs.Option.{option_map_or}
use Rattle.std.specs.Str.{chars}
use Rattle.std.specs.List.{list_all, list_any}
use Rattle.std.proofs.lemmas.Bool.{eqb-true, le-leb, ltb-false}
use Rattle.clap.specs.Facts.{parser_of_value, unwrap_or_range}
use Rattle.clap.proofs.WalkLemmas.{both}
use Rattle.clap.specs.Lexer.{long_of, short_of}
use Rattle.clap.specs.Kinds.{Kinds, check_kinds, or_else, range_kinds, value_kinds, values_kinds}
use Rattle.clap.specs.ValueTests.{accepts}
use Rattle.clap.specs.Walk.{Held, Names, Row, Rule, Step, Text, Waiting, Walk, action_of, answers_to, arg_by_id, arg_by_index, arg_by_long, arg_by_short, attached_value, nothing_held, settled, subcommand_met, word_met, most_values, next, trailing, subcommand, value, takes_values, values_or_missing, walk, walk_from, walked, finished}
use Rattle.clap.specs.Simple.{App, Shape, entered, label_of, names_of, built}
use Rattle.clap.specs.Takes.{action_passes, bundle_step_passes, built_takes, count_passes, default_passes, entered_passes, flag_word_passes, flags_pass, is_given, is_valid, level_passes, long_passes, option_passes, other_passes, positional_passes, react_passes, set_passes, settle_passes, short_passes, step_passes, takes, turn_passes, use_passes, values_pass, walk_passes, word_passes}
use Rattle.clap.specs.Faults.{action_fault, built_fault, bundle_step_fault, check_fault, count_fault, defaults_fault, entered_fault, fault_of, flag_word_fault, flags_fault, level_fault, long_fault, option_fault, other_fault, positional_fault, react_fault, set_fault, settle_fault, short_fault, step_fault, stray_fault, turn_fault, use_fault, values_fault, walk_fault, word_fault}
use Rattle.clap.specs.declared.builder.action.ArgAction.{ArgAction}
use Rattle.clap.specs.declared.builder.action.ArgAction.TheVariants.{Set, Append, SetTrue, SetFalse, Count, Help, HelpShort, HelpLong, Version}
use Rattle.clap.specs.declared.builder.value_parser.ValueParser.{ValueParser}
use Rattle.clap.specs.declared.error.kind.ErrorKind.{ErrorKind}
use Rattle.cli_words.specs.Command.{rac_app}

-- ---- lists of kinds, and tests

pub some_fault : {P : Type 0} (k : ErrorKind) (ks : Kinds) → k ∷ ks ≡ [] → P
some_fault k ks e = let bad : suc (length ks) ≡ 0 = ap length e in absurd (omega arith)

first_none : (a b : Kinds) → or_else a b ≡ [] → a ≡ []
first_none [] b e = refl
first_none (k ∷ ks) b e = e

then_none : (a b : Kinds) → or_else a b ≡ [] → b ≡ []
then_none [] b e = e
then_none (k ∷ ks) b e = some_fault k ks e

pub pass_both : (a b : Bool) → a ≡ true → b ≡ true → (a && b) ≡ true
pass_both true b p q = q
pass_both false b p q = absurd (true≢false (sym p))

-- a test that fails leaves a kind
if_passed : (b : Bool) (k : ErrorKind) (ks : Kinds) → (if b then [] else k ∷ ks) ≡ [] → b ≡ true
if_passed true k ks e = refl
if_passed false k ks e = some_fault k ks e

if_failed : (b : Bool) (k : ErrorKind) (ks : Kinds) → (if b then k ∷ ks else []) ≡ [] → b ≡ false
if_failed true k ks e = some_fault k ks e
if_failed false k ks e = refl

unless : (b p : Bool) (f : Kinds) → (f ≡ [] → p ≡ true) → (if b then [] else f) ≡ [] → (b || p) ≡ true
unless true p f each e = refl
unless false p f each e = each e

not_and : (a b : Bool) → (a && not b) ≡ false → (not a || b) ≡ true
not_and true true e = refl
not_and true false e = sym e
not_and false b e = refl

maybe : {X : Type 0} (o : Option X) (f : X → Kinds) (p : X → Bool) → ((x : X) → f x ≡ [] → p x ≡ true)
    → option_map_or f o [] ≡ [] → option_map_or p o true ≡ true
maybe None f p each e = refl
maybe (Some x) f p each e = each x e

no_or : (a b : Bool) → (a || b) ≡ false → (a ≡ false) × (b ≡ false)
no_or true b e = absurd (true≢false e)
no_or false b e = (refl, e)

-- ---- values

values_ok : (i : Bool) (parser : ValueParser) (vs : List Text) → values_kinds i parser vs ≡ [] → list_all (accepts i parser) vs ≡ true
values_ok i parser [] e = refl
values_ok i parser (v ∷ vs) e =
    pass_both (accepts i parser v) (list_all (accepts i parser) vs)
    (if_passed (accepts i parser v) _ [] (first_none (value_kinds i parser v) (values_kinds i parser vs) e))
    (values_ok i parser vs (then_none (value_kinds i parser v) (values_kinds i parser vs) e))

pass_values : (a : Rule) (vs : List Text) → values_fault a vs ≡ [] → values_pass a vs ≡ true
pass_values a vs e = values_ok a.ignore_case (parser_of_value a.parser) vs e

-- ---- one use

pass_set : (again : Bool) (a : Rule) (values : List Text) (rows : List Row) → set_fault again a values rows ≡ [] → set_passes again a values rows ≡ true
pass_set again a values rows e = pass_both _ _ (not_and _ again (if_failed _ _ [] (first_none _ (values_fault a values) e))) (pass_values a values (then_none _ (values_fault a values) e))

pass_count : (a : Rule) (values : List Text) (rows : List Row) → count_fault a values rows ≡ [] → count_passes a values rows ≡ true
pass_count a [] rows e = if_passed _ _ [] e
pass_count a (v ∷ vs) rows e = pass_values a (v ∷ vs) e

pass_action : (x : ArgAction) (again : Bool) (a : Rule) (values : List Text) (rows : List Row) → action_fault x again a values rows ≡ []
    → action_passes x again a values rows ≡ true
pass_action Set again a values rows e = pass_set again a values rows e
pass_action SetTrue again a values rows e = pass_set again a values rows e
pass_action SetFalse again a values rows e = pass_set again a values rows e
pass_action Append again a values rows e = pass_values a values e
pass_action Count again a values rows e = pass_count a values rows e
pass_action Help again a values rows e = some_fault _ [] e
pass_action HelpShort again a values rows e = some_fault _ [] e
pass_action HelpLong again a values rows e = some_fault _ [] e
pass_action Version again a values rows e = some_fault _ [] e

not_below : (a b : ℕ) → nat_lt a b ≡ false → nat_le b a ≡ true
not_below a b e = le-leb b a (ltb-false a b e)

abbrev ways : Bool → Bool → Bool → Bool → Bool → ErrorKind → ErrorKind → ErrorKind → ErrorKind → Kinds
ways empty one same few many k l m n =
    if empty then k ∷ []
    else (if one then (if same then [] else l ∷ [])
    else (if few then m ∷ [] else (if many then n ∷ [] else [])))

in_range : (empty one same few many : Bool) (k l m n : ErrorKind) → ways empty one same few many k l m n ≡ []
    → ((one ≡ true) × (same ≡ true)) ⊎ ((few ≡ false) × (many ≡ false))
in_range true one same few many k l m n e = some_fault k [] e
in_range false true true few many k l m n e = inl (refl, refl)
in_range false true false few many k l m n e = some_fault l [] e
in_range false false same true many k l m n e = some_fault m [] e
in_range false false same false true k l m n e = some_fault n [] e
in_range false false same false false k l m n e = inr (refl, refl)

fits : (least most n : ℕ) → ((least == most ≡ true) × (least == n ≡ true)) ⊎ ((nat_lt n least ≡ false) × (nat_lt most n ≡ false))
    → (nat_le least n ≡ true) × (nat_le n most ≡ true)
fits least most n (inl same) =
    let one : least ≡ most = eqb-true least most same.0 in
    let here : least ≡ n = eqb-true least n same.1 in
    (le-leb least n (omega (arith, here)), le-leb n most (omega (arith, one, here)))
fits least most n (inr between) = (not_below n least between.0, not_below most n between.1)

pass_use : (again : Bool) (a : Rule) (values : List Text) (rows : List Row) → use_fault again a values rows ≡ [] → use_passes again a values rows ≡ true
pass_use again a values rows e =
    let least : ℕ = (unwrap_or_range a.range).start_inclusive in
    let count : Kinds = range_kinds least (most_values a) (length values) in
    let acts : Kinds = action_fault (action_of a) again a (values_or_missing a values) rows in
    let range = fits least (most_values a) (length values) (in_range _ _ _ _ _ _ _ _ _ (first_none count acts e)) in
    pass_both _ _ range.0 (pass_both _ _ range.1 (pass_action (action_of a) again a (values_or_missing a values) rows (then_none count acts e)))

-- ---- the walk

pass_settle : (c : List Rule) (again : Bool) (h : Held) → settle_fault c again h ≡ [] → settle_passes c again h ≡ true
pass_settle c again h e =
    maybe h.pending _ _ (λ p. maybe (arg_by_id c p.0) (λ a. use_fault again a p.1 h.rows) (λ a. use_passes again a p.1 h.rows) (λ a. pass_use again a p.1 h.rows)) e

pass_react : (c : List Rule) (again : Bool) (a : Rule) (values : List Text) (h : Held) → react_fault c again a values h ≡ []
    → react_passes c again a values h ≡ true
pass_react c again a values h e =
    pass_both _ _ (pass_settle c again h (first_none (settle_fault c again h) _ e))
    (pass_use again a values _ (then_none (settle_fault c again h) _ e))

pass_option : (c : List Rule) (again : Bool) (a : Rule) (v : Option Text) (h : Held) → option_fault c again a v h ≡ [] → option_passes c again a v h ≡ true
pass_option c again a (Some v) h e = pass_react c again a (v ∷ []) h e
pass_option c again a None h e = pass_settle c again h e

by_kind : (takes has option_is flag_is : Bool) (k : ErrorKind) (option flag : Kinds) → (option ≡ [] → option_is ≡ true) → (flag ≡ [] → flag_is ≡ true)
    → (if takes then option else (if has then k ∷ [] else flag)) ≡ [] → (if takes then option_is else (not has && flag_is)) ≡ true
by_kind true has option_is flag_is k option flag each other e = each e
by_kind false true option_is flag_is k option flag each other e = some_fault k [] e
by_kind false false option_is flag_is k option flag each other e = other e

pass_long : (c : List Rule) (again : Bool) (found : Option Rule) (v : Option Text) (h : Held) → long_fault c again found v h ≡ [] → long_passes c again found v h ≡ true
pass_long c again None v h e = some_fault _ [] e
pass_long c again (Some a) v h e =
    by_kind (takes_values a) (is_some v) _ _ _ (option_fault c again a v h) (react_fault c again a [] h) (pass_option c again a v h) (pass_react c again a [] h) e

either : (b p q : Bool) (f g : Kinds) → (f ≡ [] → p ≡ true) → (g ≡ [] → q ≡ true) → (if b then f else g) ≡ [] → (if b then p else q) ≡ true
either true p q f g each other e = each e
either false p q f g each other e = other e

pass_short : (c : List Rule) (again : Bool) (found : Option Rule) (rest : Text) (h : Held) (fault : Held → Kinds) (passes : Held → Bool)
    → ((h : Held) → fault h ≡ [] → passes h ≡ true) → short_fault c again found rest h fault ≡ [] → short_passes c again found rest h passes ≡ true
pass_short c again None rest h fault passes each e = some_fault _ [] e
pass_short c again (Some a) rest h fault passes each e =
    either (takes_values a) _ _ _ _ (pass_option c again a (attached_value rest) h)
    (λ none. pass_both _ _ (pass_react c again a [] h (first_none (react_fault c again a [] h) _ none)) (each _ (then_none (react_fault c again a [] h) _ none))) e

pass_step_in : (c : List Rule) (again : Bool) (x : Option ℕ) (flags : Text) (skip : ℕ) (h : Held) (fault : Text → ℕ → Held → Kinds) (passes : Text → ℕ → Held → Bool)
    → ((t : Text) (k : ℕ) (h : Held) → fault t k h ≡ [] → passes t k h ≡ true)
    → bundle_step_fault c again x flags skip h fault ≡ [] → bundle_step_passes c again x flags skip h passes ≡ true
pass_step_in c again None flags skip h fault passes each e = refl
pass_step_in c again (Some x) flags zero h fault passes each e =
    pass_short c again (arg_by_short c x) (drop (length (encode_utf8 x)) flags) h _ _ (λ h. each (drop (length (encode_utf8 x)) flags) 0 h) e
pass_step_in c again (Some x) flags (suc skip) h fault passes each e = each _ skip h e

pass_flags : (c : List Rule) (again : Bool) (k : ℕ) (flags : Text) (skip : ℕ) (h : Held) → flags_fault c again k flags skip h ≡ [] → flags_pass c again k flags skip h ≡ true
unfolding flags_fault flags_pass
pass_flags c again zero flags skip h e = refl
pass_flags c again (suc k) flags skip h e =
    pass_step_in c again (slice_get (chars flags) 0) flags skip h (flags_fault c again k) (flags_pass c again k) (λ t n g. pass_flags c again k t n g) e

pass_flag_word : (c : List Rule) (again : Bool) (p : Option (Text × Option Text)) (word : Text) (h : Held) → flag_word_fault c again p word h ≡ []
    → flag_word_passes c again p word h ≡ true
pass_flag_word c again (Some p) word h e = pass_long c again (arg_by_long c p.0) p.1 h e
pass_flag_word c again None word h e =
    maybe (short_of word) _ _ (λ flags. pass_flags c again (length flags) flags h.skip (record h { skip = 0 })) e

pass_other : (s : Shape) (name : Option Text) (word : Text) (h : Held) → other_fault s name word h ≡ [] → other_passes s name word h ≡ true
pass_other s (Some name) word h e = not_and _ s.disable_help_subcommand (if_failed _ _ _ e)
pass_other s None word h e = unless _ _ _ (pass_flag_word s.rules s.args_override_self (long_of word) word h) e

pass_word : (s : Shape) (names : Names) (is_trailing : Bool) (waiting : Waiting) (word : Text) (h : Held) → word_fault s names is_trailing waiting word h ≡ []
    → word_passes s names is_trailing waiting word h ≡ true
pass_word s names is_trailing waiting word h e = unless is_trailing _ _ (pass_other s (subcommand_met names waiting word) word h) e

stray : (b : Bool) (k : ErrorKind) (l : ErrorKind) → (if b then k ∷ [] else k ∷ l ∷ []) ≡ [] → ⊥
stray true k l e = some_fault k [] e
stray false k l e = some_fault k (l ∷ []) e

place_ok : (s : Shape) (found : Option Rule) (h : Held)
    → option_map_or (λ a. positional_fault s.rules s.args_override_self a h) found (stray_fault s) ≡ []
    → option_map_or (λ a. positional_passes s.rules s.args_override_self a h) found false ≡ true
place_ok s None h e = absurd (stray s.is_leaf _ _ e)
place_ok s (Some a) h e = unless _ _ _ (pass_settle s.rules s.args_override_self h) e

pass_step : (s : Shape) (position : ℕ) (h : Held) (step : Step) → step_fault s position h step ≡ [] → step_passes s position h step ≡ true
pass_step s position h value e = place_ok s (arg_by_index s.rules position) h e
pass_step s position h (next w) e = refl
pass_step s position h (trailing n) e = refl
pass_step s position h (subcommand name) e = refl

pass_turn : (s : Shape) (names : Names) (w : Walk) (word : Text) → turn_fault s names w word ≡ [] → turn_passes s names w word ≡ true
pass_turn s names w word e =
    let met : Held × Step = word_met s.rules names w.is_trailing w.waiting w.position word w.held in
    let here : Kinds = word_fault s names w.is_trailing w.waiting word w.held in
    unless (is_some w.stopped) _ _
    (λ none. pass_both _ _ (pass_word s names w.is_trailing w.waiting word w.held (first_none here _ none))
    (pass_step s w.position met.0 met.1 (then_none here _ none))) e

pass_walk : (s : Shape) (names : Names) (w : Walk) (words : List Text) → walk_fault s names w words ≡ [] → walk_passes s names w words ≡ true
unfolding walk_fault walk_passes
pass_walk s names w [] e = refl
pass_walk s names w (word ∷ rest) e =
    pass_both _ _ (pass_turn s names w word (first_none (turn_fault s names w word) _ e))
    (pass_walk s names (walked s.rules names w word) rest (then_none (turn_fault s names w word) _ e))

-- ---- after the walk

none_wanted : (help sub arg : Bool) → check_kinds help sub arg ≡ [] → (help ≡ false) × (sub ≡ false) × (arg ≡ false)
none_wanted true sub arg e = some_fault _ [] e
none_wanted false true arg e = some_fault _ [] e
none_wanted false false true e = some_fault _ [] e
none_wanted false false false e = (refl, refl, refl)

shown : (has asks given : Bool) → (not has && (asks && not given)) ≡ false → (not asks || (has || given)) ≡ true
shown has false given e = refl
shown true true given e = refl
shown false true true e = refl
shown false true false e = sym e

has_one : (has asks : Bool) → (not has && asks) ≡ false → (not asks || has) ≡ true
has_one has false e = refl
has_one true true e = refl
has_one false true e = sym e

no_any : (rows : List Row) (rules : List Rule) → list_any (λ a. a.required && not (is_given a.id rows)) rules ≡ false
    → list_all (λ a. not a.required || is_given a.id rows) rules ≡ true
no_any rows [] e = refl
no_any rows (a ∷ rules) e =
    let parts = no_or (a.required && not (is_given a.id rows)) _ e in
    pass_both _ _ (not_and a.required (is_given a.id rows) parts.0) (no_any rows rules parts.1)

needed : (negates : Bool) (rows : List Row) (rules : List Rule) → (not negates && list_any (λ a. a.required && not (is_given a.id rows)) rules) ≡ false
    → (negates || list_all (λ a. not a.required || is_given a.id rows) rules) ≡ true
needed true rows rules e = refl
needed false rows rules e = no_any rows rules e

pass_check : (s : Shape) (rows : List Row) (has : Bool) → list_all (λ a. a.is_free) s.rules ≡ true → check_fault s rows has ≡ [] → is_valid s rows has ≡ true
pass_check s rows has free e =
    let none = none_wanted _ _ _ e in
    pass_both _ _ (shown has s.arg_required_else_help _ none.0)
    (pass_both _ _ (has_one has s.subcommand_required none.1)
    (pass_both _ _ free (needed (s.subcommand_negates_reqs && has) rows s.rules none.2)))

-- no rule of the shape is on another one, and each default passes
abbrev is_good : Shape → Bool
is_good s = list_all (λ a. a.is_free) s.rules && list_all default_passes s.rules

pass_level : (s : Shape) (names : Names) (h : Held) (words : List Text) (has : Bool) (below : Kinds) → is_good s ≡ true
    → level_fault s names h words has below ≡ [] → level_passes s names h words has ≡ true
pass_level s names h words has below good e =
    let end : Held = (walk s.rules names h words).held in
    let parts = both (list_all (λ a. a.is_free) s.rules) _ good in
    let walking : Kinds = walk_fault s names (walk_from h) words in
    let one = then_none walking _ e in
    let two = then_none below _ one in
    let settling : Kinds = settle_fault s.rules s.args_override_self end in
    let three = then_none settling _ two in
    let four = then_none (defaults_fault (settled s.rules end).rows s.rules) _ three in
    pass_both _ _ (pass_walk s names (walk_from h) words (first_none walking _ e))
    (pass_both _ _ (pass_settle s.rules s.args_override_self end (first_none settling _ two))
    (pass_both _ _ parts.1 (pass_check s (finished s.rules end) has parts.0 four)))

below_none : (s : Shape) (names : Names) (h : Held) (words : List Text) (has : Bool) (below : Kinds)
    → level_fault s names h words has below ≡ [] → below ≡ []
below_none s names h words has below e = first_none below _ (then_none (walk_fault s names (walk_from h) words) _ e)

found_at : (b : Bool) (s : Shape) (rest : Option Shape) (f : Shape → Kinds) (g : Shape → Bool) → (f s ≡ [] → g s ≡ true)
    → (option_map_or f rest [] ≡ [] → option_map_or g rest true ≡ true)
    → option_map_or f (cond b (Some s) rest) [] ≡ [] → option_map_or g (cond b (Some s) rest) true ≡ true
found_at true s rest f g each more e = each e
found_at false s rest f g each more e = more e

found_ok : (p : Shape → Bool) (subs : List Shape) (f : Shape → Kinds) (g : Shape → Bool) → ((s : Shape) → is_good s ≡ true → f s ≡ [] → g s ≡ true)
    → list_all is_good subs ≡ true → option_map_or f (find p subs) [] ≡ [] → option_map_or g (find p subs) true ≡ true
found_ok p [] f g each good e = refl
found_ok p (s ∷ subs) f g each good e =
    let parts = both (is_good s) _ good in
    found_at (p s) s (find p subs) f g (each s parts.0) (found_ok p subs f g each parts.1) e

pass_entered : (a : App) (stop : Option (Text × List Text)) → list_all is_good a.subs ≡ true → entered_fault a stop ≡ [] → entered_passes a stop ≡ true
pass_entered a stop good e =
    maybe stop _ _ (λ p. found_ok (λ s. answers_to p.0 (label_of s)) a.subs _ _ (λ s is none. pass_level s [] nothing_held p.1 false [] is none) good) e

pass_built : (a : App) (h : Held) (words : List Text) → is_good a.top ≡ true → list_all is_good a.subs ≡ true
    → built_fault a h words ≡ [] → built_takes a h words ≡ true
pass_built a h words top subs e =
    let stop : Option (Text × List Text) = (walk a.top.rules (names_of a) h words).stopped in
    let has : Bool = is_some (entered a stop) in
    pass_both _ _ (pass_entered a stop subs (below_none a.top (names_of a) h words has (entered_fault a stop) e))
    (pass_level a.top (names_of a) h words has (entered_fault a stop) top e)

-- the words at which clap finds no fault are those that it takes
pub taken : (words : List Text) → fault_of rac_app words ≡ [] → takes rac_app words ≡ true
taken words none = pass_built (built rac_app) nothing_held words refl refl none
