-- What is told of the files of logs after one of them changed.
use Rattle.std.proofs.Common.{◌≡◌, ◌≢◌, ◌<◌, ℕ, List, length, map, get_or, set, Option, None, ap, sym, ◌∙◌, arith, get_or-set_same}
use Rattle.std.proofs.lemmas.List.{length-map, map-set, get_or-map, get_or-set_other}
use Rattle.file_disk.specs.Files.{of_log}

-- the file that changed
pub of_log-changed : {F A : Type 0} (tells : F → Option A) (files : List F) (at thread : ℕ) (file : F) → at ≡ thread → thread < length files → of_log tells (set files at file) thread ≡ tells file
of_log-changed tells files at thread file same inside =
    let here : get_or (map tells (set files thread file)) thread None ≡ tells file = ap (λ l. get_or l thread None) (map-set tells files thread file) ∙ get_or-set_same (map tells files) thread (tells file) None (omega (arith, inside, length-map files tells)) in
    ap (λ n. get_or (map tells (set files n file)) thread None) same ∙ here

-- the others
pub of_log-other : {F A : Type 0} (tells : F → Option A) (files : List F) (at thread : ℕ) (file : F) → at ≡ thread → (k : ℕ) → k ≢ thread → of_log tells (set files at file) k ≡ of_log tells files k
of_log-other tells files at thread file same k other =
    ap (λ n. get_or (map tells (set files n file)) k None) same
    ∙ ap (λ l. get_or l k None) (map-set tells files thread file)
    ∙ get_or-set_other (map tells files) thread k (tells file) None other

-- the file before it changed
pub of_log-file : {F A : Type 0} (tells : F → Option A) (files : List F) (at thread : ℕ) (none : F) → at ≡ thread → thread < length files → of_log tells files thread ≡ tells (get_or files at none)
of_log-file tells files at thread none same inside =
    get_or-map tells files thread none None inside ∙ ap (λ n. tells (get_or files n none)) (sym same)
