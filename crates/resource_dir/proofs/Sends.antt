-- What is sent by two steps in turn.
use Rattle.std.proofs.Common.{◌≡◌, ◌∙◌, ◌++◌, ℕ, List, ap, append_assoc, Result, Ok, Err, OnOk}
use Rattle.wire_net.specs.declared.message.Message.{Message}
use Rattle.wire_net.specs.declared.entry.Entry.{Entry}

-- what the second step sends stands behind what the first one sent
pub sent-in-turn : {T E : Type 0} (result : Result T E) (out between after first : List (ℕ × Message))
    (second : Entry → List (ℕ × Message)) (came entry : Entry) → OnOk result (after ≡ between ++ second came) → came ≡ entry
    → between ≡ out ++ first → OnOk result (after ≡ out ++ (first ++ second entry))
sent-in-turn (Ok x) out between after first second came entry sends is sent =
    sends ∙ (ap (λ (it : List (ℕ × Message)). it ++ second came) sent
    ∙ (append_assoc out first (second came) ∙ ap (λ (it : Entry). out ++ (first ++ second it)) is))
sent-in-turn (Err e) out between after first second came entry sends is sent = tt
