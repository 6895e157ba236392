-- What is to be seen of the sessions of an instance, after a step that changes one of them or none.
use Rattle.std.proofs.Common.{◌≡◌, ℕ, ◌<◌, Bool, true, false, List, [], ◌∷◌, length, map, get_or, fold, if◌then◌else◌, refl, sym, ap, ◌∙◌, arith}
use Rattle.std.specs.Prelude.{◌==◌, slice_index_or, slice_set}
use Rattle.std.proofs.Math.ListN.{get_or-map}
use Rattle.std.proofs.Math.Seq.{map-set_same}
use Rattle.std.proofs.lemmas.List.{get_or-set_other, get_or-set_same, length-map}
use Rattle.inst_state.specs.declared.inst.Inst.{Inst}
use Rattle.inst_state.specs.declared.plan.Opening.{Opening}
use Rattle.inst_state.specs.declared.session.Session.{Session}
use Rattle.inst_state.specs.Sessions.{new_session}
use Rattle.inst_state.specs.State.{session_at}
use Rattle.wave_steps.specs.Enter.{opened, opened_if}

pub look_is : {A : Type 0} (look : Session → A) (n : Inst) (z : ℕ) → get_or (map look n.sessions) z (look new_session) ≡ look (session_at n z)
look_is look n z = get_or-map look n.sessions z new_session

pub same_look : {A : Type 0} (look : Session → A) (n m : Inst) (z : ℕ) → map look m.sessions ≡ map look n.sessions → look (session_at m z) ≡ look (session_at n z)
same_look {A = A} look n m z e =
    sym (look_is look m z) ∙ ap (λ (l : List A). get_or l z (look new_session)) e ∙ look_is look n z

pub set_look : {A : Type 0} (look : Session → A) (n m : Inst) (z : ℕ) (a : A) → map look m.sessions ≡ slice_set (map look n.sessions) z a → z < length n.sessions
    → look (session_at m z) ≡ a
set_look {A = A} look n m z a e within =
    let len : length (map look n.sessions) ≡ length n.sessions = length-map n.sessions look in
    sym (look_is look m z) ∙ ap (λ (l : List A). get_or l z (look new_session)) e
    ∙ get_or-set_same (map look n.sessions) z a (look new_session) (omega arith)

pub other_look : {A : Type 0} (look : Session → A) (n m : Inst) (z : ℕ) (a : A) (y : ℕ) → map look m.sessions ≡ slice_set (map look n.sessions) z a → (y ≡ z → ⊥)
    → look (session_at m y) ≡ look (session_at n y)
other_look {A = A} look n m z a y e apart =
    sym (look_is look m y) ∙ ap (λ (l : List A). get_or l y (look new_session)) e
    ∙ get_or-set_other (map look n.sessions) z y a (look new_session) apart
    ∙ look_is look n y

opened_looks : {A : Type 0} (look : Session → A) (up : Bool) (wave : ℕ) (sessions : List Session) (opening : Opening) (b : Bool)
    → ((s : Session) → look (opened up s) ≡ look s)
    → map look (if b then slice_set sessions opening.session (opened up (slice_index_or sessions opening.session new_session)) else sessions) ≡ map look sessions
opened_looks look up wave sessions opening true same =
    map-set_same look sessions opening.session (opened up (slice_index_or sessions opening.session new_session)) new_session (same (slice_index_or sessions opening.session new_session))
opened_looks look up wave sessions opening false same = refl

-- what doesn't tell whether a session is connected stays as sessions are opened
pub open_looks : {A : Type 0} (look : Session → A) (up : Bool) (wave : ℕ) (sessions : List Session) (openings : List Opening) → ((s : Session) → look (opened up s) ≡ look s)
    → map look (fold (opened_if up wave) sessions openings) ≡ map look sessions
open_looks look up wave sessions [] same = refl
open_looks look up wave sessions (opening ∷ openings) same =
    open_looks look up wave (opened_if up wave sessions opening) openings same ∙ opened_looks look up wave sessions opening (opening.wave == wave) same
