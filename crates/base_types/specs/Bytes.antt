-- Numbers and names of transactions in a list of bytes, the highest byte first.
use Rattle.std.specs.Prelude.{◌≡◌, ℕ, ◌+◌, ◌≤◌, ◌⊎◌, List, ◌∷◌, ◌++◌, length, take, drop, slice_index}
pub use Rattle.byteorder.specs.Endian.{big_bytes, big_number}
use Rattle.base_types.specs.declared.names.Xid.{Xid}

-- The bytes from place `at` are now the text, and every other byte is untouched.
abbrev pub Puts : List ℕ → List ℕ → ℕ → List ℕ → Type 0
Puts old new at text = new ≡ take at old ++ text ++ drop (at + length text) old

-- The number in the n bytes from place `at`.
abbrev pub number_at : ℕ → List ℕ → ℕ → ℕ
number_at n bytes at = big_number n (drop at bytes)

-- A transaction's name in 8 bytes: its segment, its slot, two zeros, and its wrap in four bytes.
abbrev pub xid_bytes : Xid → List ℕ
xid_bytes x = x.seg ∷ x.slot ∷ 0 ∷ 0 ∷ big_bytes 4 x.wrap

-- The transaction whose segment, slot and wrap stand in the 8 bytes from place `at`.
abbrev pub xid_at : List ℕ → ℕ → Xid
xid_at bytes at = record {
  seg = slice_index bytes at;
  slot = slice_index bytes (at + 1);
  wrap = number_at 4 bytes (at + 4);
}

-- The n bytes from place `at` and the m bytes from the other place have none in common.
abbrev pub AreApart : ℕ → ℕ → ℕ → ℕ → Type 0
AreApart at n place m = (at + n ≤ place) ⊎ (place + m ≤ at)
