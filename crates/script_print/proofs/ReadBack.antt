-- The printed lines are read one after another, and say the script.
use Rattle.std.proofs.Common.{◌≡◌, ◌∙◌, ℕ, suc, zero, ◌+◌, ◌-◌, ◌<◌, ◌≤◌, Bool, true, false, cond, ◌||◌, nat_lt, nat_le, List, [], ◌∷◌, ◌++◌, length, take, map, replicate, Ok, Err, codes, refl, ap, sym, subst, arith, append_assoc, append-nil, length-append, add-zero}
use Rattle.std.specs.List.{AllByRecursion, list_all, list_any}
use Rattle.std.proofs.lemmas.Grind.{common_steps}
use Rattle.std.proofs.lemmas.List.{length-replicate}
use Rattle.std.proofs.lemmas.List.Folds.{list_any-append}
use Rattle.script_text.specs.declared.item.Item.{Item}
use Rattle.script_text.specs.declared.item.Item.TheVariants as items
use Rattle.script_text.specs.declared.rule.Rule.TheVariants as rules
use Rattle.script_print.proofs.SaidType.{Said}
use Rattle.script_text.specs.Clashes.{clashes}
use Rattle.script_text.specs.Forms.{go_line}
use Rattle.script_text.specs.Reading.{joined, lines_read, nothing_said, reading, whole}
use Rattle.script_text.specs.Rules.{counted, is_plain, judged_words, line_read}
use Rattle.script_text.specs.ScriptParts.{ScriptParts}
use Rattle.script_text.specs.Words.{words}
use Rattle.script_text.specs.WellFormed.{AreApart, AreOpened, IsItemWithin, opened_after}
use Rattle.script_text.proofs.Sound.{go_on-ok}
use Rattle.script_print.specs.Printed.{Mark, Asks, Ends, lines_from, mark_of, marks_behind, marks_of, printed, printed_lines, setting_lines}
use Rattle.script_print.specs.Spelled.{item_words, spaced}
use Rattle.script_print.proofs.Items.{CanCome, IsReadTo, IsReadTo-item, IsSpelled, IsSpelledScript, fixed, item-few, item-said, item-words, with_line}
use Rattle.script_print.proofs.Rows.{judged-keeps, line_read-empty, line_read-spaced}
use Rattle.script_print.proofs.SettingLines.{settings-read}
use Rattle.script_print.proofs.Texts.{lines-ended}

-- There is a line for each end of a wave, and no item's line is taken yet.
abbrev pub HasRoom : ℕ → ℕ → List Mark → Type 0
HasRoom next last [] = next ≤ last + 1
HasRoom next last (Asks line item ∷ more) = (next ≤ line) × HasRoom (line + 1) last more
HasRoom next last (Ends ∷ more) = HasRoom (next + 1) last more

room-low : (marks : List Mark) (next last : ℕ) → HasRoom next last marks → next ≤ last + 1
room-low [] next last room = room
room-low (Asks line item ∷ more) next last room = omega (arith, room.0, room-low more (line + 1) last room.1)
room-low (Ends ∷ more) next last room = omega (arith, room-low more (next + 1) last room)

-- how many sessions are open after these items
abbrev pub opened_all : ℕ → List (ℕ × Item) → ℕ
opened_all opened [] = opened
opened_all opened (line ∷ more) = opened_all (opened_after opened line.1) more

-- empty lines are counted
empties-read : (count : ℕ) (said : Said) (ls : List (List ℕ)) → said.lines + count ≤ 10000
    → lines_read said (replicate count [] ++ ls) ≡ lines_read (record said { lines = said.lines + count }) ls
empties-read zero said ls room = rw (add-zero said.lines) refl
empties-read (suc count) said ls room =
    rw (line_read-empty said (omega arith))
    (empties-read count (counted said) ls (omega arith) ∙ ap (λ (n : ℕ). lines_read (record said { lines = n }) ls) (omega arith))

go-judged : (said : Said) → judged_words said (codes "go" ∷ []) ≡ Ok (record said { begun = true; waves = said.waves ++ said.wave ∷ []; wave = [] })
unfolding judged_words go_line
go-judged said = judged-keeps (go_line said) (record { names = refl; spelled = refl; in_range = refl; in_order = refl; in_session = refl; once = refl })

module _ (parts : ScriptParts) (spelled : IsSpelledScript parts) where
  -- an item is read at its line
  item-read : (opened : ℕ) (said : Said) (line : ℕ) (item : Item) (ls : List (List ℕ)) → IsReadTo parts opened said → CanCome parts opened said item
      → said.lines + 1 ≤ line → line ≤ 10000
      → lines_read said (replicate (line - (said.lines + 1)) [] ++ spaced (item_words parts.names item) ∷ ls) ≡ lines_read (with_line parts (record said { lines = line }) item) ls
  item-read opened said line item ls read can low high =
      let before : Said = record said { lines = said.lines + (line - (said.lines + 1)) } in
      let next : before.lines + 1 ≡ line = omega arith in
      let here : IsReadTo parts opened (counted before) = record { settings = read.settings; sessions = read.sessions; homes = read.homes; within = read.within } in
      let come : CanCome parts opened (counted before) item = record { within = can.within; opens = can.opens; spelled = can.spelled; apart = can.apart } in
      let by_words : line_read before (spaced (item_words parts.names item)) ≡ Ok (with_line parts (counted before) item) =
      line_read-spaced before (item_words parts.names item) (omega arith) (item-words parts spelled opened (counted before) here item come) (item-few parts spelled opened (counted before) here item)
      ∙ item-said parts spelled opened (counted before) here item come in
      empties-read (line - (said.lines + 1)) said (spaced (item_words parts.names item) ∷ ls) (omega arith)
      ∙ rw by_words (ap (λ (n : ℕ). lines_read (with_line parts (record said { lines = n }) item) ls) next)

  -- what was said once a wave has ended
  abbrev ended : Said → Said
  ended said = record (counted said) { begun = true; waves = said.waves ++ said.wave ∷ []; wave = [] }

  go-read : (said : Said) (ls : List (List ℕ)) → said.lines < 10000 → lines_read said (codes "go" ∷ ls) ≡ lines_read (ended said) ls
  go-read said ls room = rw (line_read-spaced said (codes "go" ∷ []) room (fixed _ refl, tt) (omega arith), go-judged (counted said)) refl

  apart-before : (before : List (ℕ × Item)) (line : ℕ × Item) (rest : List (ℕ × Item)) → AreApart (before ++ line ∷ rest) → list_any (λ earlier. clashes earlier.1 line.1) before ≡ false
  apart-before [] line rest apart = refl
  apart-before (first ∷ before) line rest apart =
      let none : (list_any (λ later. clashes first.1 later.1) before || list_any (λ later. clashes first.1 later.1) (line ∷ rest)) ≡ false =
      sym (list_any-append (λ later. clashes first.1 later.1) before (line ∷ rest)) ∙ apart.0 in
      let here : clashes first.1 line.1 ≡ false = by (clashes first.1 line.1) (list_any (λ later. clashes first.1 later.1) before) (list_any (λ later. clashes first.1 later.1) rest) none in
      rw here (apart-before before line rest apart.1)
    where
      by : (c a b : Bool) → (a || (c || b)) ≡ false → c ≡ false
      by true true b h = absurd (cc)
      by true false b h = absurd (cc)
      by false a b h = refl

  -- what is to come can come
  record CanGoOn (opened : ℕ) (said : Said) (wave : List (ℕ × Item)) (more : List (List (ℕ × Item))) (last : ℕ) : Type 0 where
    within : AllByRecursion (λ line. IsItemWithin parts.settings parts.homes line.1) (wave ++ joined more)
    opens : AreOpened opened (wave ++ joined more)
    spelled_items : AllByRecursion (λ line. IsSpelled line.1) (wave ++ joined more)
    apart : AreApart (said.wave ++ wave)
    later : AllByRecursion AreApart more
    room : HasRoom (said.lines + 1) last (map mark_of wave ++ marks_behind more)

  -- it was read
  record Reaches (opened : ℕ) (said : Said) (wave : List (ℕ × Item)) (more : List (List (ℕ × Item))) (last : ℕ) : Type 0 where
    final : Said
    reads : (ls : List (List ℕ)) → lines_read said (lines_from parts.names (said.lines + 1) (map mark_of wave ++ marks_behind more) ++ ls) ≡ lines_read final ls
    read : IsReadTo parts (opened_all opened (wave ++ joined more)) final
    count : final.lines ≡ said.lines + length (lines_from parts.names (said.lines + 1) (map mark_of wave ++ marks_behind more))
    low : final.lines ≤ last
    waves : final.waves ++ final.wave ∷ [] ≡ said.waves ++ (said.wave ++ wave) ∷ more

  -- what is reached behind an item is reached before it
  asks-step : (more : List (List (ℕ × Item))) (line : ℕ × Item) (rest : List (ℕ × Item)) (opened : ℕ) (said said_next : Said) (last : ℕ)
      → said_next.lines ≡ line.0 → said_next.waves ≡ said.waves → said_next.wave ≡ said.wave ++ line ∷ [] → said.lines + 1 ≤ line.0
      → ((ls : List (List ℕ)) → lines_read said (replicate (line.0 - (said.lines + 1)) [] ++ spaced (item_words parts.names line.1) ∷ ls) ≡ lines_read said_next ls)
      → Reaches (opened_after opened line.1) said_next rest more last → Reaches opened said (line ∷ rest) more last
  asks-step more line rest opened said said_next last lines_next waves_next wave_next first step there =
      let marks = map mark_of rest ++ marks_behind more in
      let behind = lines_from parts.names (line.0 + 1) marks in
      let same : lines_from parts.names (said_next.lines + 1) marks ≡ behind = ap (λ (n : ℕ). lines_from parts.names (n + 1) marks) lines_next in
      record {
        final = there.final;
        reads = λ ls.
            ap (λ (all : List (List ℕ)). lines_read said all) (append_assoc (replicate (line.0 - (said.lines + 1)) []) (spaced (item_words parts.names line.1) ∷ behind) ls)
            ∙ step (behind ++ ls)
            ∙ ap (λ (all : List (List ℕ)). lines_read said_next (all ++ ls)) (sym same)
            ∙ there.reads ls;
        read = there.read;
        count =
            (let c = there.count in
            let d = ap length same in
            omega (
              arith,
              c,
              d,
              lines_next,
              first,
              length-append (replicate (line.0 - (said.lines + 1)) []) (spaced (item_words parts.names line.1) ∷ behind),
              length-replicate {A = List ℕ} (line.0 - (said.lines + 1)) [],
            ));
        low = there.low;
        waves = there.waves
            ∙ ap (λ (waves : List (List (ℕ × Item))). waves ++ (said_next.wave ++ rest) ∷ more) waves_next
            ∙ ap (λ (wave : List (ℕ × Item)). said.waves ++ wave ∷ more) (ap (λ (wave : List (ℕ × Item)). wave ++ rest) wave_next ∙ append_assoc said.wave (line ∷ []) rest);
      }

  reach : (more : List (List (ℕ × Item))) (wave : List (ℕ × Item)) (opened : ℕ) (said : Said) (last : ℕ) → last ≤ 10000 → IsReadTo parts opened said
      → CanGoOn opened said wave more last → Reaches opened said wave more last
  reach [] [] opened said last small read can = record {
    final = said;
    reads = λ ls. refl;
    read = read;
    count = omega arith;
    low = (let r = can.room in omega arith);
    waves = rw (append-nil said.wave) refl;
  }
  reach (next ∷ more) [] opened said last small read can =
      let low = room-low (map mark_of next ++ marks_behind more) (said.lines + 1 + 1) last can.room in
      let there = reach more next opened (ended said) last small (record { settings = read.settings; sessions = read.sessions; homes = read.homes; within = read.within })
      (record { within = can.within; opens = can.opens; spelled_items = can.spelled_items; apart = can.later.0; later = can.later.1; room = can.room }) in
      record {
        final = there.final;
        reads = λ ls. go-read said (lines_from parts.names (said.lines + 1 + 1) (map mark_of next ++ marks_behind more) ++ ls) (omega arith) ∙ there.reads ls;
        read = there.read;
        count = (let c = there.count in omega arith);
        low = there.low;
        waves = there.waves ∙ append_assoc said.waves (said.wave ∷ []) (next ∷ more) ∙ rw (append-nil said.wave) refl;
      }
  reach more (line ∷ rest) opened said last small read can =
      let low = room-low (map mark_of rest ++ marks_behind more) (line.0 + 1) last can.room.1 in
      let first = can.room.0 in
      let come : CanCome parts opened said line.1 = record { within = can.within.0; opens = can.opens.0; spelled = can.spelled_items.0; apart = apart-before said.wave line rest can.apart } in
      let at : Said = record said { lines = line.0 } in
      let at_read : IsReadTo parts opened at = record { settings = read.settings; sessions = read.sessions; homes = read.homes; within = read.within } in
      let at_come : CanCome parts opened at line.1 = record { within = come.within; opens = come.opens; spelled = come.spelled; apart = come.apart } in
      let said_next = with_line parts at line.1 in
      let next_read = IsReadTo-item parts spelled opened at at_read line.1 at_come in
      let lines_next : said_next.lines ≡ line.0 = with_line-lines line.1 at in
      let wave_next : said_next.wave ≡ said.wave ++ line ∷ [] = with_line-wave line.1 at in
      let waves_next : said_next.waves ≡ said.waves = with_line-waves line.1 at in
      let joined_wave : said_next.wave ++ rest ≡ said.wave ++ line ∷ rest = ap (λ (wave : List (ℕ × Item)). wave ++ rest) wave_next ∙ append_assoc said.wave (line ∷ []) rest in
      let there = reach more rest (opened_after opened line.1) said_next last small next_read
      (record {
        within = can.within.1;
        opens = can.opens.1;
        spelled_items = can.spelled_items.1;
        apart = subst AreApart (sym joined_wave) can.apart;
        later = can.later;
        room = subst (λ (n : ℕ). HasRoom (n + 1) last (map mark_of rest ++ marks_behind more)) (sym lines_next) can.room.1;
      }) in
      asks-step more line rest opened said said_next last lines_next waves_next wave_next first
      (λ ls. item-read opened said line.0 line.1 ls read come first (omega arith)) there
    where
      with_line-lines : (item : Item) (said : Said) → (with_line parts said item).lines ≡ said.lines
      with_line-lines (items.Session session inst) said = refl
      with_line-lines (items.Stmt session what) said = refl
      with_line-lines (items.CrashAfter inst steps keep) said = refl
      with_line-lines (items.CrashMark inst keep) said = refl
      with_line-lines (items.Start inst) said = refl
      with_line-lines (items.Remaster bucket to) said = refl
      with_line-lines (items.Checkpoint inst) said = refl
      with_line-lines (items.Hold reader until) said = refl

      with_line-wave : (item : Item) (said : Said) → (with_line parts said item).wave ≡ said.wave ++ (said.lines, item) ∷ []
      with_line-wave (items.Session session inst) said = refl
      with_line-wave (items.Stmt session what) said = refl
      with_line-wave (items.CrashAfter inst steps keep) said = refl
      with_line-wave (items.CrashMark inst keep) said = refl
      with_line-wave (items.Start inst) said = refl
      with_line-wave (items.Remaster bucket to) said = refl
      with_line-wave (items.Checkpoint inst) said = refl
      with_line-wave (items.Hold reader until) said = refl

      with_line-waves : (item : Item) (said : Said) → (with_line parts said item).waves ≡ said.waves
      with_line-waves (items.Session session inst) said = refl
      with_line-waves (items.Stmt session what) said = refl
      with_line-waves (items.CrashAfter inst steps keep) said = refl
      with_line-waves (items.CrashMark inst keep) said = refl
      with_line-waves (items.Start inst) said = refl
      with_line-waves (items.Remaster bucket to) said = refl
      with_line-waves (items.Checkpoint inst) said = refl
      with_line-waves (items.Hold reader until) said = refl

-- a line that is read is plain
line-plain : (said next : Said) (line : List ℕ) → line_read said line ≡ Ok next → list_all is_plain line ≡ true
unfolding line_read
line-plain said next line h = by (nat_lt said.lines 10000) (nat_le (length line) 200) (list_all is_plain line) h
  where
    by : (a b c : Bool) → cond a (cond b (cond c (judged_words (counted said) (words line)) (Err rules.Byte)) (Err rules.Long)) (Err rules.Lines) ≡ Ok next → c ≡ true
    by true true true h = refl
    by true true false h = absurd (cc)
    by true false c h = absurd (cc)
    by false b c h = absurd (cc)

lines-plain : (ls : List (List ℕ)) (said final : Said) → lines_read said ls ≡ Ok final → AllByRecursion (λ line. list_all is_plain line ≡ true) ls
lines-plain [] said final h = tt
lines-plain (line ∷ ls) said final h =
    let next = go_on-ok (line_read said line) (said.lines + 1) (λ s. lines_read s ls) final h in
    (line-plain said next.0 line next.1, lines-plain ls next.0 final next.2)

-- what printing a script asks
pub record IsPrintable (parts : ScriptParts) : Type 0 where
  pub spelled : IsSpelledScript parts
  pub first : List (ℕ × Item)
  pub more : List (List (ℕ × Item))
  pub waves : parts.waves ≡ first ∷ more
  pub within : AllByRecursion (λ line. IsItemWithin parts.settings parts.homes line.1) (first ++ joined more)
  pub opens : AreOpened 0 (first ++ joined more)
  pub all_open : opened_all 0 (first ++ joined more) ≡ length parts.names
  pub spelled_items : AllByRecursion (λ line. IsSpelled line.1) (first ++ joined more)
  pub apart : AllByRecursion AreApart (first ∷ more)
  pub room : HasRoom (length (setting_lines parts.settings) + 1) parts.lines (map mark_of first ++ marks_behind more)
  pub few : parts.lines ≤ 10000

pub printed-reads : (parts : ScriptParts) → IsPrintable parts → reading (printed parts) ≡ Ok parts
unfolding reading
printed-reads parts can =
    let set = settings-read parts.settings can.spelled.settings in
    let start : IsReadTo parts 0 set.said = record { settings = set.settings_are; sessions = set.sessions; homes = set.homes; within = omega arith } in
    let there = reach parts can.spelled can.more can.first 0 set.said parts.lines can.few start (record {
      within = can.within;
      opens = can.opens;
      spelled_items = can.spelled_items;
      apart = rw set.wave can.apart.0;
      later = can.apart.1;
      room = rw set.lines can.room;
    }) in
    let ask = lines_from parts.names (length (setting_lines parts.settings) + 1) (marks_of parts.waves) in
    let body : lines_from parts.names (set.said.lines + 1) (map mark_of can.first ++ marks_behind can.more) ≡ ask = rw (set.lines, can.waves) refl in
    let count : there.final.lines ≡ length (setting_lines parts.settings ++ ask) = there.count ∙ rw (body, set.lines) (sym (length-append (setting_lines parts.settings) ask)) in
    let low = there.low in
    let end : Said = record there.final { lines = parts.lines } in
    let all : lines_read nothing_said (printed_lines parts) ≡ Ok end =
    ap (λ ls. lines_read nothing_said ls) (append_assoc (setting_lines parts.settings) ask (replicate (parts.lines - length (setting_lines parts.settings ++ ask)) []))
    ∙ set.reads (ask ++ replicate (parts.lines - length (setting_lines parts.settings ++ ask)) [])
    ∙ (rw body at (there.reads (replicate (parts.lines - length (setting_lines parts.settings ++ ask)) [])))
    ∙ ap (λ ls. lines_read there.final ls) (sym (append-nil (replicate (parts.lines - length (setting_lines parts.settings ++ ask)) [])))
    ∙ empties-read (parts.lines - length (setting_lines parts.settings ++ ask)) there.final [] (omega (arith, count, low, can.few))
    ∙ ap (λ (n : ℕ). lines_read (record there.final { lines = n }) []) (omega (arith, count, low)) in
    let named = can.spelled.named in
    let sessions_are : there.final.sessions ≡ parts.names = there.read.sessions ∙ rw can.all_open (take-all parts.names) in
    let homes_are : there.final.homes ≡ parts.homes = there.read.homes ∙ rw (can.all_open, named) (take-all-ℕ parts.homes) in
    let waves_are : there.final.waves ++ there.final.wave ∷ [] ≡ parts.waves = there.waves ∙ rw (set.waves, set.wave) (sym can.waves) in
    ap (λ ls. whole (lines_read nothing_said ls)) (lines-ended (printed_lines parts) (lines-plain (printed_lines parts) nothing_said end all))
    ∙ ap whole all
    ∙ ap (λ (p : ScriptParts). Ok p) (rw (there.read.settings, sessions_are, homes_are, waves_are) refl)
  where
    take-all : (xs : List (List ℕ)) → take (length xs) xs ≡ xs
    take-all xs = grind (arith, common_steps)

    take-all-ℕ : (xs : List ℕ) → take (length xs) xs ≡ xs
    take-all-ℕ xs = grind (arith, common_steps)
