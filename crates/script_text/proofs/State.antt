-- What holds of what was said, line by line.
use Rattle.std.proofs.Common.{◌≡◌, ℕ, ◌<◌, ◌≤◌, Bool, true, false, List, [], ◌∷◌, ◌++◌, length, Option, refl, sym, ap, ◌∙◌, arith, append_assoc, append-nil, slice_get}
use Rattle.std.specs.List.{list_any, AllByRecursion}
use Rattle.script_text.specs.declared.item.Item.{Item}
use Rattle.script_text.specs.declared.item.Item.TheVariants as items
use Rattle.script_text.specs.declared.script.Settings.{Settings}
use Rattle.script_text.specs.declared.said.Said.{Said}
use Rattle.script_text.specs.Clashes.{clashes}
use Rattle.script_text.specs.Forms.{with_item}
use Rattle.script_text.specs.Reading.{joined, settings_of}
use Rattle.script_text.specs.WellFormed.{AreSettings, RiseWithin, IsItemWithin, IsOpened, opened_after, AreOpened, AreApart}
use Rattle.script_text.proofs.Lists.{All-push, All-more, list_any-none_push}

-- the items of the waves that were ended and of the one that wasn't
abbrev pub items_so_far : Said → List (ℕ × Item)
items_so_far said = joined said.waves ++ said.wave

pub joined-push : (waves : List (List (ℕ × Item))) (wave : List (ℕ × Item)) → joined (waves ++ wave ∷ []) ≡ joined waves ++ wave
joined-push [] wave = append-nil wave
joined-push (first ∷ waves) wave = ap (λ xs. first ++ xs) (joined-push waves wave) ∙ sym (append_assoc first (joined waves) wave)

RiseWithin-push : (before most line : ℕ) (xs : List (ℕ × Item)) (item : Item) → before ≤ most → most < line → RiseWithin before most xs → RiseWithin before line (xs ++ (line, item) ∷ [])
RiseWithin-push before most line [] item low high h = (omega arith, omega arith, tt)
RiseWithin-push before most line (x ∷ xs) item low high h = (h.0, omega (arith, h.1), RiseWithin-push x.0 most line xs item h.1 high h.2)

pub RiseWithin-more : (before most line : ℕ) (xs : List (ℕ × Item)) → most ≤ line → RiseWithin before most xs → RiseWithin before line xs
RiseWithin-more before most line [] high h = tt
RiseWithin-more before most line (x ∷ xs) high h = (h.0, omega (arith, h.1), RiseWithin-more x.0 most line xs high h.2)

-- some sessions are the first of more
pub record IsStart (few many : List ℕ) : Type 0 where
  pub fewer : length few ≤ length many
  pub same : (k : ℕ) → k < length few → slice_get many k ≡ slice_get few k

IsItemWithin-more : (settings : Settings) (few many : List ℕ) (item : Item) → IsStart few many → IsItemWithin settings few item → IsItemWithin settings many item
IsItemWithin-more settings few many (items.Session session inst) le h = (le.same session h.1 ∙ h.0, omega (arith, h.1, le.fewer), h.2)
IsItemWithin-more settings few many (items.Stmt session what) le h = (omega (arith, h.0, le.fewer), h.1)
IsItemWithin-more settings few many (items.CrashAfter inst steps keep) le h = h
IsItemWithin-more settings few many (items.CrashMark inst keep) le h = h
IsItemWithin-more settings few many (items.Start inst) le h = h
IsItemWithin-more settings few many (items.Remaster bucket to) le h = h
IsItemWithin-more settings few many (items.Checkpoint inst) le h = h
IsItemWithin-more settings few many (items.Hold reader until) le h =
    (omega (arith, h.0, le.fewer), omega (arith, h.1, le.fewer), h.2, rw (le.same reader h.0, le.same until h.1) h.3)

-- how many sessions are opened after all items
abbrev pub opened_all : ℕ → List (ℕ × Item) → ℕ
opened_all opened [] = opened
opened_all opened (item ∷ more) = opened_all (opened_after opened item.1) more

AreOpened-push : (opened line : ℕ) (xs : List (ℕ × Item)) (item : Item) → AreOpened opened xs → IsOpened (opened_all opened xs) item → AreOpened opened (xs ++ (line, item) ∷ [])
AreOpened-push opened line [] item h here = (here, tt)
AreOpened-push opened line (x ∷ xs) item h here = (h.0, AreOpened-push (opened_after opened x.1) line xs item h.1 here)

opened_all-push : (opened line : ℕ) (xs : List (ℕ × Item)) (item : Item) → opened_all opened (xs ++ (line, item) ∷ []) ≡ opened_after (opened_all opened xs) item
opened_all-push opened line [] item = refl
opened_all-push opened line (x ∷ xs) item = opened_all-push (opened_after opened x.1) line xs item

AreApart-push : (line : ℕ) (xs : List (ℕ × Item)) (item : Item) → AreApart xs → list_any (λ earlier. clashes earlier.1 item) xs ≡ false → AreApart (xs ++ (line, item) ∷ [])
AreApart-push line [] item h none = (refl, tt)
AreApart-push line (x ∷ xs) item h none = by (clashes x.1 item) refl (λ more. AreApart-push line xs item h.1 more)
  where
    by : (b : Bool) → clashes x.1 item ≡ b → (list_any (λ earlier. clashes earlier.1 item) xs ≡ false → AreApart (xs ++ (line, item) ∷ [])) → AreApart ((x ∷ xs) ++ (line, item) ∷ [])
    by true e more = let k = rw e at none in absurd (cc)
    by false e more = (list_any-none_push (λ later. clashes x.1 later.1) xs (line, item) h.0 e, more (rw e at none))

-- the items are numbered up to this line, what they name is there, and each can stand in its wave
pub record IsSound (line : ℕ) (said : Said) : Type 0 where
  pub settings : AreSettings (settings_of said)
  pub rise : RiseWithin 0 line (items_so_far said)
  pub within : AllByRecursion (λ item. IsItemWithin (settings_of said) said.homes item.1) (items_so_far said)
  pub begins : said.begun ≡ false → items_so_far said ≡ []
  pub opened : AreOpened 0 (items_so_far said)
  pub count : opened_all 0 (items_so_far said) ≡ length said.homes
  pub named : length said.sessions ≡ length said.homes
  pub few : length said.sessions ≤ 1024
  pub ended : AllByRecursion AreApart said.waves
  pub apart : AreApart said.wave

-- nothing was said of a line
pub IsSound-later : (said : Said) (few many : ℕ) → few ≤ many → IsSound few said → IsSound many said
IsSound-later said few many le sound = record {
  settings = sound.settings;
  rise = RiseWithin-more 0 few many (items_so_far said) le sound.rise;
  within = sound.within;
  begins = sound.begins;
  opened = sound.opened;
  count = sound.count;
  named = sound.named;
  few = sound.few;
  ended = sound.ended;
  apart = sound.apart;
}

-- an item is added at a later line, with the sessions that are open then
pub record CanAdd (said : Said) (sessions : List (List ℕ)) (homes : List ℕ) (item : Item) : Type 0 where
  pub more : IsStart said.homes homes
  pub named : length sessions ≡ length homes
  pub few : length sessions ≤ 1024
  pub within : IsItemWithin (settings_of said) homes item
  pub opened : IsOpened (length said.homes) item
  pub count : opened_after (length said.homes) item ≡ length homes
  pub apart : list_any (λ earlier. clashes earlier.1 item) said.wave ≡ false

pub with_item-sound : (line : ℕ) (said : Said) (sessions : List (List ℕ)) (homes : List ℕ) (item : Item) → line < said.lines → IsSound line said
    → CanAdd said sessions homes item → IsSound said.lines (with_item (record said { sessions = sessions; homes = homes }) item)
with_item-sound line said sessions homes item later sound can =
    let next = with_item (record said { sessions = sessions; homes = homes }) item in
    let pushed : items_so_far next ≡ items_so_far said ++ (said.lines, item) ∷ [] = sym (append_assoc (joined said.waves) said.wave ((said.lines, item) ∷ [])) in
    let Within : (ℕ × Item) → Type 0 = λ it. IsItemWithin (settings_of said) homes it.1 in
    record {
      settings = sound.settings;
      rise = rw pushed (RiseWithin-push 0 line said.lines (items_so_far said) item (omega arith) later sound.rise);
      within = rw pushed (All-push Within (items_so_far said) (said.lines, item)
          (All-more (λ it. IsItemWithin (settings_of said) said.homes it.1) Within (items_so_far said) (λ it. IsItemWithin-more (settings_of said) said.homes homes it.1 can.more) sound.within)
          can.within);
      begins = λ h. absurd (cc);
      opened = rw pushed (AreOpened-push 0 said.lines (items_so_far said) item sound.opened (rw sound.count can.opened));
      count = rw pushed (opened_all-push 0 said.lines (items_so_far said) item ∙ (ap (λ n. opened_after n item) sound.count ∙ can.count));
      named = can.named;
      few = can.few;
      ended = sound.ended;
      apart = AreApart-push said.lines said.wave item sound.apart can.apart;
    }

-- a setting that no other line stands before
pub set-sound : (line : ℕ) (said : Said) (instances blocks undo cache seed : Option ℕ) →
    (let next = record said { instances = instances; blocks = blocks; undo = undo; cache = cache; seed = seed } in
    line < said.lines → IsSound line said → said.begun ≡ false → AreSettings (settings_of next) → IsSound said.lines next)
set-sound line said instances blocks undo cache seed later sound first settings =
    let empty : items_so_far said ≡ [] = sound.begins first in
    let next = record said { instances = instances; blocks = blocks; undo = undo; cache = cache; seed = seed } in
    record {
      settings = settings;
      rise = rw empty tt;
      within = rw empty tt;
      begins = λ h. empty;
      opened = sound.opened;
      count = sound.count;
      named = sound.named;
      few = sound.few;
      ended = sound.ended;
      apart = sound.apart;
    }

-- the wave is ended
pub go-sound : (line : ℕ) (said : Said) → line < said.lines → IsSound line said → IsSound said.lines (record said { begun = true; waves = said.waves ++ said.wave ∷ []; wave = [] })
go-sound line said later sound =
    let next : Said = record said { begun = true; waves = said.waves ++ said.wave ∷ []; wave = [] } in
    let same : items_so_far next ≡ items_so_far said = append-nil _ ∙ joined-push said.waves said.wave in
    record {
      settings = sound.settings;
      rise = rw same (RiseWithin-more 0 line said.lines (items_so_far said) (omega arith) sound.rise);
      within = rw same sound.within;
      begins = λ h. absurd (cc);
      opened = rw same sound.opened;
      count = rw same sound.count;
      named = sound.named;
      few = sound.few;
      ended = All-push AreApart said.waves said.wave sound.ended sound.apart;
      apart = tt;
    }
