-- What a writer takes, piece by piece.
use Rattle.std.proofs.Common.{◌≡◌, ◌≢◌, ◌+◌, ◌-◌, ◌<◌, ◌≤◌, ℕ, zero, suc, List, [], ◌∷◌, ◌++◌, length, take, refl, sym, ap, ◌∙◌, subst, inl, inr, arith, append_assoc}
use Rattle.std.specs.Prelude.{min}
use Rattle.std.proofs.lemmas.Bool.{cases_lt}
use Rattle.std.proofs.lemmas.List.{append-nil, length-append, length-take}
use Rattle.std.proofs.lemmas.List.Elements.{All-nil, All-push}
use Rattle.tg_bytes.specs.Lists.{joined, joined_push}
use Rattle.tg_filedag.specs.Chunks.{ChunkerState, FullAreChunks, LastIsChunk, cleared, fed_with, taken_of}
use Rattle.tg_filedag.specs.State.{BalancedState, StandsFor}
use Rattle.tg_import_file.proofs.Cuts.{full_count}
use Rattle.tg_node_writing.specs.KeepingSteps.{Joins, keeps_both, keeps_nothing}
use Rattle.tg_import_file.specs.Files.{max_file_len}
use Rattle.tg_import_file.specs.Taking.{HasLinked, HasTaken, LinksLast, MayTake, TakesPiece}
use Rattle.tg_model_laws.specs.Stores.{KeepingJoins}
use Rattle.tg_model.specs.Dag.{Section}
use Rattle.tg_model.specs.Stores.{KeepMeaning, Keeping, kept_in}
use Rattle.tg_node_writing.specs.Keeping.{Keeps}

-- nothing was taken by a writer that is ready
pub ready_taken : (c : ChunkerState) (b : BalancedState) → c.bytes ≡ [] → 1 ≤ c.size → StandsFor b [] [] → HasTaken c b [] []
ready_taken c b none one stands =
    let count : length c.bytes ≡ 0 = ap length none in
    record { chunks = []; stands = stands; full = All-nil (λ (chunk : List ℕ). length chunk ≡ c.size); room = omega arith; bytes_are = none }

-- nothing, and one piece behind another
pub takes_nothing : {S : Type 0} → (m : KeepMeaning S) → ((s : S) → m.kept s s []) → (s : S) (c : ChunkerState) (b : BalancedState)
    → TakesPiece c b c b [] (kept_in m s s)
takes_nothing m rests s c b bytes kept h =
    ([], keeps_nothing m rests s, subst (λ (t : List ℕ). HasTaken c b t (kept ++ [])) (sym (append-nil bytes)) (subst (HasTaken c b bytes) (sym (append-nil kept)) h))

pub takes_on : {S : Type 0} → (m : KeepMeaning S) → Joins m → KeepingJoins → (x y z : S) (c d e : ChunkerState) (b b' b'' : BalancedState) (u v : List ℕ)
    → TakesPiece c b d b' u (kept_in m x y) → TakesPiece d b' e b'' v (kept_in m y z) → TakesPiece c b e b'' (u ++ v) (kept_in m x z)
takes_on m joins stores x y z c d e b b' b'' u v p q bytes kept h =
    let first = p bytes kept h in
    let next = q (bytes ++ u) (kept ++ first.0) first.2 in (
      first.0 ++ next.0,
      keeps_both m joins stores x y z first.0 next.0 first.1 next.1,
      subst (λ (t : List ℕ). HasTaken e b'' t (kept ++ (first.0 ++ next.0))) (append_assoc bytes u v)
          (subst (HasTaken e b'' ((bytes ++ u) ++ v)) (append_assoc kept first.0 next.0) next.2),
    )

-- ---- one chunk

below : (n m : ℕ) → n ≤ m → n ≢ m → n < m
below n m le ne = elim (cases_lt n m) [
  | inl lt ↦ lt
  | inr ge ↦ absurd (ne (omega arith))
]

pub front_rest : (k : ℕ) (xs : List ℕ) → take (length (take k xs)) xs ≡ take k xs
front_rest zero xs = refl
front_rest (suc k) [] = refl
front_rest (suc k) (x ∷ xs) = ap (λ (t : List ℕ). x ∷ t) (front_rest k xs)

-- how many bytes the chunk has once it is fed
pub fed_length : (c : ChunkerState) (piece : List ℕ) → length c.bytes < c.size → length (fed_with c piece).bytes ≡ length c.bytes + min (c.size - length c.bytes) (length piece)
fed_length c piece room =
    let whole = length-append c.bytes (taken_of c piece) in
    let part = length-take (c.size - length c.bytes) piece in
    omega arith

fed_bytes : (c : ChunkerState) (piece bytes : List ℕ) (chunks : List (List ℕ)) → joined chunks ++ c.bytes ≡ bytes
    → joined chunks ++ (fed_with c piece).bytes ≡ bytes ++ taken_of c piece
fed_bytes c piece bytes chunks are =
    sym (append_assoc (joined chunks) c.bytes (taken_of c piece)) ∙ ap (λ (t : List ℕ). t ++ taken_of c piece) are

-- the chunk has room still
pub takes_open : {S : Type 0} → (m : KeepMeaning S) → ((s : S) → m.kept s s []) → (s : S) (c new : ChunkerState) (b : BalancedState) (piece : List ℕ) (n : ℕ)
    → new ≡ fed_with c piece → n ≡ length (taken_of c piece) → length new.bytes ≢ new.size → TakesPiece c b new b (take n piece) (kept_in m s s)
takes_open m rests s c new b piece n fed count unfull bytes kept h =
    let size : new.size ≡ c.size = ap (λ (x : ChunkerState). x.size) fed in
    let long : length new.bytes ≡ length (fed_with c piece).bytes = ap (λ (x : ChunkerState). length x.bytes) fed in
    let most = fed_length c piece h.room in
    let room = h.room in
    let front : take n piece ≡ taken_of c piece = ap (λ (k : ℕ). take k piece) count ∙ front_rest (c.size - length c.bytes) piece in
    let taken : HasTaken new b (bytes ++ taken_of c piece) kept =
    subst (λ (x : ChunkerState). HasTaken x b (bytes ++ taken_of c piece) kept) (sym fed)
    (record {
      chunks = h.chunks;
      stands = h.stands;
      full = h.full;
      room = below (length (fed_with c piece).bytes) c.size (omega arith) (λ e. unfull (long ∙ e ∙ sym size));
      bytes_are = fed_bytes c piece bytes h.chunks h.bytes_are;
    }) in (
      [],
      keeps_nothing m rests s,
      subst (HasTaken new b (bytes ++ take n piece)) (sym (append-nil kept)) (subst (λ (t : List ℕ). HasTaken new b (bytes ++ t) kept) (sym front) taken),
    )

-- the chunk is full, and was linked
abbrev pub LeafStands : BalancedState → BalancedState → List ℕ → Keeping → Type 0
LeafStands b new chunk keeping = (chunks : List (List ℕ)) (kept : List Section) → StandsFor b chunks kept
    → (sections : List Section) × Keeps sections keeping × StandsFor new (chunks ++ chunk ∷ []) (kept ++ sections)

pub takes_full : (c fed new : ChunkerState) (b b' : BalancedState) (piece chunk : List ℕ) (n : ℕ) (keeping : Keeping)
    → fed ≡ fed_with c piece → new ≡ cleared fed → chunk ≡ fed.bytes → n ≡ length (taken_of c piece) → length fed.bytes ≡ fed.size
    → LeafStands b b' chunk keeping → TakesPiece c b new b' (take n piece) keeping
takes_full c fed new b b' piece chunk n keeping is clear chunk_is count full stands bytes kept h =
    let leaf = stands h.chunks kept h.stands in
    let size : fed.size ≡ c.size = ap (λ (x : ChunkerState). x.size) is in
    let same : chunk ≡ (fed_with c piece).bytes = chunk_is ∙ ap (λ (x : ChunkerState). x.bytes) is in
    let long : length chunk ≡ c.size = ap length chunk_is ∙ full ∙ size in
    let room = h.room in
    let front : take n piece ≡ taken_of c piece = ap (λ (k : ℕ). take k piece) count ∙ front_rest (c.size - length c.bytes) piece in
    let taken : HasTaken (cleared c) b' (bytes ++ taken_of c piece) (kept ++ leaf.0) =
    record {
      chunks = h.chunks ++ chunk ∷ [];
      stands = leaf.2;
      full = All-push (λ (x : List ℕ). length x ≡ c.size) h.chunks chunk h.full long;
      room = omega arith;
      bytes_are = append-nil (joined (h.chunks ++ chunk ∷ [])) ∙ joined_push h.chunks chunk ∙ ap (λ (t : List ℕ). joined h.chunks ++ t) same ∙ fed_bytes c piece bytes h.chunks h.bytes_are;
    } in
    let cleared_is : new ≡ cleared c = clear ∙ ap cleared is in (
      leaf.0,
      leaf.1,
      subst (λ (x : ChunkerState). HasTaken x b' (bytes ++ take n piece) (kept ++ leaf.0)) (sym cleared_is)
          (subst (λ (t : List ℕ). HasTaken (cleared c) b' (bytes ++ t) (kept ++ leaf.0)) (sym front) taken),
    )

-- ---- the bounds of a leaf

-- a chunk that holds the bytes at hand and some of those that may be taken
pub leaf_fits : (c : ChunkerState) (b : BalancedState) (more : ℕ) (chunk : List ℕ) → MayTake c b more → length chunk ≤ length c.bytes + more → 0 < length chunk
    → (b.bytes + length chunk ≤ max_file_len) × (b.leaves + 1 ≤ max_file_len)
leaf_fits c b more chunk may most some =
    let h = may.taken in
    let few = may.few in
    let room = h.room in
    let bytes : length (joined h.chunks ++ c.bytes) ≡ length may.bytes = ap length h.bytes_are in
    let whole = length-append (joined h.chunks) c.bytes in
    let count = full_count c.size h.chunks (omega arith) h.full in
    let bytes_are = h.stands.bytes_are in
    let leaves_are = h.stands.leaves_are in
    (omega arith, omega arith)

-- ---- the last chunk

pub links_none : FullAreChunks → {S : Type 0} → (m : KeepMeaning S) → ((s : S) → m.kept s s []) → (s : S) (c : ChunkerState) (b : BalancedState) → c.bytes ≡ []
    → LinksLast c b b (kept_in m s s)
links_none full m rests s c b none bytes kept h =
    let room = h.room in (
      [],
      keeps_nothing m rests s,
      subst (HasLinked c.size b bytes) (sym (append-nil kept)) (record {
        chunks = h.chunks;
        stands = h.stands;
        are = full c.size h.chunks (omega arith) h.full;
        bytes_are = sym (append-nil (joined h.chunks)) ∙ ap (λ (t : List ℕ). joined h.chunks ++ t) (sym none) ∙ h.bytes_are;
      }),
    )

pub links_last : LastIsChunk → (c : ChunkerState) (b b' : BalancedState) (chunk : List ℕ) (keeping : Keeping) → chunk ≡ c.bytes → 0 < length chunk
    → LeafStands b b' chunk keeping → LinksLast c b b' keeping
links_last last c b b' chunk keeping is some stands bytes kept h =
    let leaf = stands h.chunks kept h.stands in
    let room = h.room in
    let long : length chunk ≡ length c.bytes = ap length is in (
      leaf.0,
      leaf.1,
      record {
        chunks = h.chunks ++ chunk ∷ [];
        stands = leaf.2;
        are = last c.size h.chunks chunk (omega arith) h.full (omega arith) some;
        bytes_are = joined_push h.chunks chunk ∙ ap (λ (t : List ℕ). joined h.chunks ++ t) is ∙ h.bytes_are;
      },
    )
