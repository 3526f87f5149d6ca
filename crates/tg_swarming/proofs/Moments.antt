-- A swarm that runs, from one moment to the next.
use Rattle.std.proofs.Common.{All, Err, List, Ok, Result, Some, [], ap, length, map, slice_index_or, subst, suc, sym, zero, ℕ, ◌<◌, ◌∙◌, ◌∷◌, ◌≡◌}
use Rattle.std.proofs.lemmas.Option.{get_or_from_slice_get, slice_get-get_or, slice_get_within}
use Rattle.std.specs.List.{slice_get}
use Rattle.tg_swarming.specs.Rounds.{GoOn, GoSo, HasAddr, HasAddrs, IsRunning, Meanings, Moment, Setup, Stop}
use Rattle.tg_swarm.specs.declared.fault.SwarmFault.{SwarmFault}

pub get_map : {X Y : Type 0} (f : X → Y) (xs : List X) (k : ℕ) (x : X) → slice_get xs k ≡ Some x → slice_get (map f xs) k ≡ Some (f x)
get_map f [] k x is = absurd (cc is)
get_map f (y ∷ xs) zero x is = cc is
get_map f (y ∷ xs) (suc k) x is = get_map f xs k x is

-- the text at a peer's place
pub text_at : {X : Type 0} (bytes : X → List ℕ) (addrs : List X) (k : ℕ) (x : X) (text : List ℕ) → k < length addrs → x ≡ slice_index_or addrs k x → text ≡ bytes x
    → slice_get (map bytes addrs) k ≡ Some text
text_at bytes addrs k x text lt at is =
    get_map bytes addrs k (slice_index_or addrs k x) (slice_get-get_or addrs k x lt) ∙ ap Some (sym (is ∙ ap bytes at))

-- is its address
pub has_addr : {X : Type 0} (bytes : X → List ℕ) (addrs : List X) (k : ℕ) (x : X) (text : List ℕ) → k < length addrs → x ≡ slice_index_or addrs k x → text ≡ bytes x
    → (setup : Setup) → HasAddrs (map bytes addrs) setup → HasAddr k text setup
has_addr bytes addrs k x text lt at is setup same = subst (λ (xs : List (List ℕ)). slice_get xs k ≡ Some text) (sym same) (text_at bytes addrs k x text lt at is)

pub all_at : {X : Type 0} (P : X → Type 0) (xs : List X) (k : ℕ) (x : X) → slice_get xs k ≡ Some x → All P xs → P x
all_at P xs k x is all = subst P (get_or_from_slice_get xs k x x is) (all k x (slice_get_within xs k x is))

module _ {D L S : Type 0} (m : Meanings D L S) where
  -- which runs are spoken of
  pub running_as : (which other : Setup → Type 0) (at : Moment D L S) → ((setup : Setup) → which setup → other setup) → IsRunning m which at → IsRunning m other at
  running_as which other at to h =
      record { setup = h.setup; first = h.first; start = h.start; is_which = to h.setup h.is_which; runs = h.runs }

  pub go_as : (which other : Setup → Type 0) (x y : Moment D L S) → ((setup : Setup) → other setup → which setup) → GoOn m which x y → GoOn m other x y
  go_as which other x y to go setup first start is runs = go setup first start (to setup is) runs

  pub stop_as : (which other : Setup → Type 0) (x y : Moment D L S) (fault : SwarmFault) → ((setup : Setup) → other setup → which setup)
      → Stop m which x y fault → Stop m other x y fault
  stop_as which other x y fault to stop setup first start is runs = stop setup first start (to setup is) runs

  pub so_as : {A : Type 0} (which other : Setup → Type 0) (x y : Moment D L S) (result : Result A SwarmFault) → ((setup : Setup) → other setup → which setup)
      → GoSo m which x y result → GoSo m other x y result
  so_as which other x y (Ok went) to go = go_as which other x y to go
  so_as which other x y (Err fault) to stop = λ setup first start is runs. stop setup first start (to setup is) runs

  module _ (which : Setup → Type 0) where
    pub running_on : (x y : Moment D L S) → IsRunning m which x → GoOn m which x y → IsRunning m which y
    running_on x y h go =
        record { setup = h.setup; first = h.first; start = h.start; is_which = h.is_which; runs = go h.setup h.first h.start h.is_which h.runs }

    -- one step after another
    pub go_both : (x y z : Moment D L S) → GoOn m which x y → GoOn m which y z → GoOn m which x z
    go_both x y z one other setup first start is runs = other setup first start is (one setup first start is runs)

    pub stop_behind : (x y z : Moment D L S) (fault : SwarmFault) → GoOn m which x y → Stop m which y z fault → Stop m which x z fault
    stop_behind x y z fault one stop setup first start is runs = stop setup first start is (one setup first start is runs)

    pub so_behind : {A : Type 0} (x y z : Moment D L S) (result : Result A SwarmFault) → GoOn m which x y → GoSo m which y z result → GoSo m which x z result
    so_behind x y z (Ok went) one go = go_both x y z one go
    so_behind x y z (Err fault) one stop = stop_behind x y z fault one stop
