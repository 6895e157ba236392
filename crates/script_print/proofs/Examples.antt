-- Scripts and their texts, worked out by hand.
use Rattle.std.proofs.Common.{◌≡◌, [], ◌∷◌, negsuc, codes, refl}
use Rattle.std.specs.Fmt.{digits}
use Rattle.base_types.specs.declared.value.Value.TheVariants.{Num}
use Rattle.script_text.specs.declared.item.Item.TheVariants as items
use Rattle.script_text.specs.declared.item.Keep.TheVariants.{AllBut}
use Rattle.script_text.specs.declared.item.Stmt.TheVariants as statements
use Rattle.script_text.specs.ScriptParts.{ScriptParts}
use Rattle.script_print.specs.Printed.{printed}

-- a script of one wave, with a setting and an empty line
one_wave : ScriptParts
one_wave = record {
  settings = record { instances = 1; blocks = 4; undo = 16; cache = 16; seed = 1 };
  lines = 4;
  names = codes "a" ∷ [];
  homes = 0 ∷ [];
  waves = ((2, items.Session 0 0) ∷ (4, items.Stmt 0 (statements.Put 12 (Num (negsuc 4)))) ∷ []) ∷ [];
}

one_wave-printed : printed one_wave ≡ codes "instances 1\nsession a on 0\n\na: put 12 -5\n"
unfolding one_wave digits
one_wave-printed = refl

-- a script of three waves, the second without a line, and a line at its end
three_waves : ScriptParts
three_waves = record {
  settings = record { instances = 2; blocks = 4; undo = 16; cache = 16; seed = 1 };
  lines = 7;
  names = codes "a" ∷ codes "b7" ∷ [];
  homes = 0 ∷ 0 ∷ [];
  waves =
      ((1, items.Session 0 0) ∷ (2, items.Session 1 0) ∷ [])
      ∷ []
      ∷ ((5, items.Hold 0 1) ∷ (6, items.CrashMark 1 (AllBut 30)) ∷ [])
      ∷ [];
}

three_waves-printed : printed three_waves ≡ codes "session a on 0\nsession b7 on 0\ngo\ngo\nhold a until b7\ncrash 1 at mark keep all-30\n\n"
unfolding three_waves digits
three_waves-printed = refl

-- the script of an empty text
nothing : ScriptParts
nothing = record {
  settings = record { instances = 2; blocks = 4; undo = 16; cache = 16; seed = 1 };
  lines = 0;
  names = [];
  homes = [];
  waves = [] ∷ [];
}

nothing-printed : printed nothing ≡ []
unfolding nothing digits
nothing-printed = refl
