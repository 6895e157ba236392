-- The lines of the settings say the settings.
use Rattle.std.proofs.Common.{◌≡◌, ◌∙◌, ℕ, ◌+◌, ◌%◌, ◌^◌, ◌<◌, ◌≤◌, Bool, true, false, cond, ◌==◌, nat_le, List, [], ◌∷◌, ◌++◌, length, Option, Some, None, unwrap_or, Ok, codes, if◌then◌else◌, refl, ap, sym, arith, append_assoc, add-zero, length-append}
use Rattle.std.specs.Fmt.{decimal}
use Rattle.std.proofs.lemmas.Bool.{eqb-true}
use Rattle.std.proofs.lemmas.Bool.Decides.{nat_tests}
use Rattle.script_print.proofs.SaidType.{Said}
use Rattle.script_text.specs.declared.script.Settings.{Settings}
use Rattle.script_text.specs.Forms.{instances_line, blocks_line, undo_line, cache_line, seed_line}
use Rattle.script_text.specs.Limits.{default_instances, default_blocks, default_undo, default_cache, default_seed}
use Rattle.script_text.specs.Reading.{lines_read, nothing_said, settings_of}
use Rattle.script_text.specs.Rules.{counted, judged_words}
use Rattle.script_text.specs.WellFormed.{AreSettings}
use Rattle.script_print.specs.Printed.{setting_line, setting_lines}
use Rattle.script_print.specs.Spelled.{spaced}
use Rattle.script_print.proofs.Items.{fixed}
use Rattle.script_print.proofs.Numbers.{is_number-decimal, number-decimal, word-decimal}
use Rattle.script_print.proofs.Rows.{judged-keeps, line_read-spaced}
use Rattle.script_print.proofs.Texts.{IsWord}

-- a setting as it is said, which isn't where it has its default
abbrev pub chosen : ℕ → ℕ → Option ℕ
chosen usual number = if number == usual then None else Some number

chosen-number : (usual number : ℕ) → unwrap_or (chosen usual number) usual ≡ number
chosen-number usual number = by (number == usual) refl
  where
    by : (b : Bool) → (number == usual) ≡ b → unwrap_or (cond b None (Some number)) usual ≡ number
    by true e = sym (eqb-true number usual e)
    by false e = refl

pub setting_line-few : (word : List ℕ) (usual number : ℕ) → length (setting_line word usual number) ≤ 1
setting_line-few word usual number = by (number == usual)
  where
    by : (b : Bool) → length (cond b [] (spaced (word ∷ decimal number ∷ []) ∷ [])) ≤ 1
    by true = omega arith
    by false = omega arith

setting-read : (word : List ℕ) (usual number : ℕ) → IsWord word → number < 2 ^ 63 → (said : Said) → said.lines < 10000 → (set : ℕ → Option ℕ → Said) → set said.lines None ≡ said
    → judged_words (counted said) (word ∷ decimal number ∷ []) ≡ Ok (set (said.lines + 1) (Some number)) → (ls : List (List ℕ))
    → lines_read said (setting_line word usual number ++ ls) ≡ lines_read (set (said.lines + length (setting_line word usual number)) (chosen usual number)) ls
setting-read word usual number is_word small said room set same judged ls = by (number == usual)
  where
    by : (b : Bool) → lines_read said (cond b [] (spaced (word ∷ decimal number ∷ []) ∷ []) ++ ls)
        ≡ lines_read (set (said.lines + length (cond b [] (spaced (word ∷ decimal number ∷ []) ∷ []))) (cond b None (Some number))) ls
    by true = rw (add-zero said.lines) (ap (λ (s : Said). lines_read s ls) (sym same))
    by false =
        rw (line_read-spaced said (word ∷ decimal number ∷ []) room (is_word, (word-decimal number small, tt)) (omega arith), judged) refl

module _ (said : Said) (fresh : said.begun ≡ false) (number : ℕ) where
  instances-judged : said.instances ≡ None → 1 ≤ number → number ≤ 8 → judged_words said (codes "instances" ∷ decimal number ∷ []) ≡ Ok (record said { instances = Some number })
  unfolding judged_words instances_line
  instances-judged none low high =
      let small : number < 2 ^ 63 = omega arith in
      let a : nat_le 1 number ≡ true = grind (arith, nat_tests) in
      let b : nat_le number 8 ≡ true = grind (arith, nat_tests) in
      judged-keeps (instances_line said (decimal number)) (record {
        names = refl;
        spelled = rw (is_number-decimal number small) refl;
        in_range = rw (number-decimal number small, a, b) refl;
        in_order = rw (fresh, none) refl;
        in_session = refl;
        once = refl;
      }) ∙ rw (number-decimal number small) refl

  blocks-judged : said.blocks ≡ None → 1 ≤ number → number ≤ 64 → judged_words said (codes "blocks" ∷ decimal number ∷ []) ≡ Ok (record said { blocks = Some number })
  unfolding judged_words blocks_line
  blocks-judged none low high =
      let small : number < 2 ^ 63 = omega arith in
      let a : nat_le 1 number ≡ true = grind (arith, nat_tests) in
      let b : nat_le number 64 ≡ true = grind (arith, nat_tests) in
      judged-keeps (blocks_line said (decimal number)) (record {
        names = refl;
        spelled = rw (is_number-decimal number small) refl;
        in_range = rw (number-decimal number small, a, b) refl;
        in_order = rw (fresh, none) refl;
        in_session = refl;
        once = refl;
      }) ∙ rw (number-decimal number small) refl

  undo-judged : said.undo ≡ None → 8 ≤ number → number ≤ 64 → number % 4 ≡ 0 → judged_words said (codes "undo" ∷ decimal number ∷ []) ≡ Ok (record said { undo = Some number })
  unfolding judged_words undo_line
  undo-judged none low high by_four =
      let small : number < 2 ^ 63 = omega arith in
      let a : nat_le 8 number ≡ true = grind (arith, nat_tests) in
      let b : nat_le number 64 ≡ true = grind (arith, nat_tests) in
      judged-keeps (undo_line said (decimal number)) (record {
        names = refl;
        spelled = rw (is_number-decimal number small) refl;
        in_range = rw (number-decimal number small, a, b, by_four) refl;
        in_order = rw (fresh, none) refl;
        in_session = refl;
        once = refl;
      }) ∙ rw (number-decimal number small) refl

  cache-judged : said.cache ≡ None → 4 ≤ number → number ≤ 64 → judged_words said (codes "cache" ∷ decimal number ∷ []) ≡ Ok (record said { cache = Some number })
  unfolding judged_words cache_line
  cache-judged none low high =
      let small : number < 2 ^ 63 = omega arith in
      let a : nat_le 4 number ≡ true = grind (arith, nat_tests) in
      let b : nat_le number 64 ≡ true = grind (arith, nat_tests) in
      judged-keeps (cache_line said (decimal number)) (record {
        names = refl;
        spelled = rw (is_number-decimal number small) refl;
        in_range = rw (number-decimal number small, a, b) refl;
        in_order = rw (fresh, none) refl;
        in_session = refl;
        once = refl;
      }) ∙ rw (number-decimal number small) refl

  seed-judged : said.seed ≡ None → number < 2 ^ 63 → judged_words said (codes "seed" ∷ decimal number ∷ []) ≡ Ok (record said { seed = Some number })
  unfolding judged_words seed_line
  seed-judged none small =
      judged-keeps (seed_line said (decimal number)) (record {
        names = refl;
        spelled = rw (is_number-decimal number small) refl;
        in_range = refl;
        in_order = rw (fresh, none) refl;
        in_session = refl;
        once = refl;
      }) ∙ rw (number-decimal number small) refl

-- what was said once the settings are read
pub record AreSet (settings : Settings) : Type 0 where
  pub said : Said
  pub reads : (ls : List (List ℕ)) → lines_read nothing_said (setting_lines settings ++ ls) ≡ lines_read said ls
  pub lines : said.lines ≡ length (setting_lines settings)
  pub settings_are : settings_of said ≡ settings
  pub sessions : said.sessions ≡ []
  pub homes : said.homes ≡ []
  pub waves : said.waves ≡ []
  pub wave : said.wave ≡ []

pub settings-read : (settings : Settings) → AreSettings settings → AreSet settings
settings-read settings are = record {
  said = said5;
  reads = λ ls.
      regroup a b c d e ls
      ∙ setting-read (codes "instances") default_instances settings.instances (fixed _ refl) (omega (arith, are.few_instances)) nothing_said (omega arith)
      (λ n v. record nothing_said { lines = n; instances = v }) refl
      (instances-judged (counted nothing_said) refl settings.instances refl are.some_instances are.few_instances) (b ++ (c ++ (d ++ (e ++ ls))))
      ∙ setting-read (codes "blocks") default_blocks settings.blocks (fixed _ refl) (omega (arith, are.few_blocks)) said1 (omega (arith, la))
      (λ n v. record said1 { lines = n; blocks = v }) refl
      (blocks-judged (counted said1) refl settings.blocks refl are.some_blocks are.few_blocks) (c ++ (d ++ (e ++ ls)))
      ∙ setting-read (codes "undo") default_undo settings.undo (fixed _ refl) (omega (arith, are.few_undo)) said2 (omega (arith, la, lb))
      (λ n v. record said2 { lines = n; undo = v }) refl
      (undo-judged (counted said2) refl settings.undo refl are.some_undo are.few_undo are.undo_by_four) (d ++ (e ++ ls))
      ∙ setting-read (codes "cache") default_cache settings.cache (fixed _ refl) (omega (arith, are.few_cache)) said3 (omega (arith, la, lb, lc))
      (λ n v. record said3 { lines = n; cache = v }) refl
      (cache-judged (counted said3) refl settings.cache refl are.some_cache are.few_cache) (e ++ ls)
      ∙ setting-read (codes "seed") default_seed settings.seed (fixed _ refl) are.seed_fits said4 (omega (arith, la, lb, lc, ld))
      (λ n v. record said4 { lines = n; seed = v }) refl
      (seed-judged (counted said4) refl settings.seed refl are.seed_fits) ls;
  lines = omega (arith, length-all a b c d e);
  settings_are = rw (
    chosen-number default_instances settings.instances,
    chosen-number default_blocks settings.blocks,
    chosen-number default_undo settings.undo,
    chosen-number default_cache settings.cache,
    chosen-number default_seed settings.seed,
  ) refl;
  sessions = refl;
  homes = refl;
  waves = refl;
  wave = refl;
}
  where
    a : List (List ℕ)
    a = setting_line (codes "instances") default_instances settings.instances

    b : List (List ℕ)
    b = setting_line (codes "blocks") default_blocks settings.blocks

    c : List (List ℕ)
    c = setting_line (codes "undo") default_undo settings.undo

    d : List (List ℕ)
    d = setting_line (codes "cache") default_cache settings.cache

    e : List (List ℕ)
    e = setting_line (codes "seed") default_seed settings.seed

    la : length a ≤ 1
    la = setting_line-few (codes "instances") default_instances settings.instances

    lb : length b ≤ 1
    lb = setting_line-few (codes "blocks") default_blocks settings.blocks

    lc : length c ≤ 1
    lc = setting_line-few (codes "undo") default_undo settings.undo

    ld : length d ≤ 1
    ld = setting_line-few (codes "cache") default_cache settings.cache

    said1 : Said
    said1 = record nothing_said { lines = 0 + length a; instances = chosen default_instances settings.instances }

    said2 : Said
    said2 = record said1 { lines = said1.lines + length b; blocks = chosen default_blocks settings.blocks }

    said3 : Said
    said3 = record said2 { lines = said2.lines + length c; undo = chosen default_undo settings.undo }

    said4 : Said
    said4 = record said3 { lines = said3.lines + length d; cache = chosen default_cache settings.cache }

    said5 : Said
    said5 = record said4 { lines = said4.lines + length e; seed = chosen default_seed settings.seed }

    regroup : (a b c d e ls : List (List ℕ)) → lines_read nothing_said (((((a ++ b) ++ c) ++ d) ++ e) ++ ls) ≡ lines_read nothing_said (a ++ (b ++ (c ++ (d ++ (e ++ ls)))))
    regroup a b c d e ls = ap (λ all. lines_read nothing_said all) (simp append_assoc)

    length-all : (a b c d e : List (List ℕ)) → length ((((a ++ b) ++ c) ++ d) ++ e) ≡ (((length a + length b) + length c) + length d) + length e
    length-all a b c d e = simp length-append
