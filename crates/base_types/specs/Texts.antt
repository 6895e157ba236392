-- What values and names of transactions print as.
use Rattle.std.specs.Prelude.{ℕ, List, ◌++◌, codes, decimal}
use Rattle.std.specs.Fmt.{signed_decimal}
use Rattle.base_types.specs.declared.names.Xid.{Xid}
use Rattle.base_types.specs.declared.value.Value.{Value}
use Rattle.base_types.specs.declared.value.Value.TheVariants.{Absent, Num}

-- A value prints as its signed decimal number, or as `absent`.
abbrev pub value_text : Value → List ℕ
value_text Absent = codes "absent"
value_text (Num n) = signed_decimal n

-- The name of a transaction prints as its segment, its slot and its wrap, with dots between.
abbrev pub xid_text : Xid → List ℕ
xid_text x = decimal x.seg ++ codes "." ++ decimal x.slot ++ codes "." ++ decimal x.wrap
