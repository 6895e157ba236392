-- Messages that are sent one by one.
use Rattle.std.proofs.Common.{◌≡◌, ℕ, List, [], ◌∷◌, drop, slice_get, None, Some}
use Rattle.wire_net.specs.declared.message.Message.{Message}
use Rattle.inst_state.specs.declared.inst.Inst.{Inst}
use Rattle.inst_state.specs.declared.shared.Core.{Core}
use Rattle.image_steps.specs.MasterTake.{sends_all}
use Rattle.image_steps.specs.Sends.{sends}

-- the first one is sent, and then the others
pub first_sent : (n : Inst) (core : Core) (messages : List (ℕ × Message)) (it : ℕ × Message) → slice_get messages 0 ≡ Some it
    → sends_all n (sends n core it.0 it.1) (drop 1 messages) ≡ sends_all n core messages
first_sent n core [] it is = search
first_sent n core (x ∷ rest) it is = search

-- where there is no first one, nothing is sent
pub none_sent : (n : Inst) (core : Core) (messages : List (ℕ × Message)) → slice_get messages 0 ≡ None
    → core ≡ sends_all n core messages
none_sent n core [] is = search
none_sent n core (x ∷ rest) is = search
