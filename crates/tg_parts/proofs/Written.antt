-- What accepted parts are, one behind another.
use Rattle.std.proofs.Common.{List, Some, ap, arith, drop, inl, inr, length, mul-le-mul_right, refl, subst, suc, sym, take, zero, ℕ, ◌*◌, ◌++◌, ◌<◌, ◌∙◌, ◌≡◌, ◌≤◌, ◌⊎◌}
use Rattle.std.proofs.lemmas.List.{take-append-drop, take_all}
use Rattle.tg_cid.specs.Cid.{CidParts}
use Rattle.tg_model.specs.Answer.{answer}
use Rattle.tg_model.specs.ByteRanges.{slice_of}
use Rattle.tg_model.specs.Content.{content}
use Rattle.tg_model.specs.Dag.{Dag, bare, node, root_cid, unopened}
use Rattle.tg_model.specs.Fits.{CollisionPair}
use Rattle.tg_model.specs.Sound.{IsSound}
use Rattle.tg_model.specs.declared.kinds.Kind.TheVariants.{Basic, File, Raw, Shard, Symlink}
use Rattle.tg_parts.proofs.Accepted.{accepted_is}
use Rattle.tg_parts.proofs.Slices.{enough}
use Rattle.tg_parts.specs.Connections.{AreAccepted, Connection, all_sections}
use Rattle.tg_parts.specs.Connections as connected
use Rattle.tg_parts.specs.PartLaws.{IsFrontByParts, PartIsSlice, PartsAreContent, SaysTotal, SlicesJoin, TotalIsTold}
use Rattle.tg_parts.specs.Parts.{joined_to, part_count, part_query, part_span}
use Rattle.tg_verify.specs.Sound.{IsItsAnswer}

pub part_is_slice : PartIsSlice
part_is_slice (unopened cid) size k sound file = absurd sound.whole
part_is_slice (bare section fault) size k sound file = absurd sound.whole
part_is_slice (node section Raw children) size k sound file = refl
part_is_slice (node section (File inline filesize parts) children) size k sound file = refl
part_is_slice (node section (Basic entries) children) size k sound file = absurd file
part_is_slice (node section (Shard slots) children) size k sound file = absurd file
part_is_slice (node section (Symlink target) children) size k sound file = absurd file

module _ (root : CidParts) (size total : ℕ) (connections : List Connection) (d : Dag)
    (sound : IsSound d) (named : root_cid d ≡ root) (says : SaysTotal total d) where
  abbrev part : ℕ → List ℕ
  part k = slice_of (content d) (part_span size total k)

  abbrev OrPair : Type 0 → Type 0
  OrPair P = P ⊎ CollisionPair (all_sections connections) d

  -- the answer to the query for a part, by the root and the total that were told
  told_slice : PartIsSlice → (k : ℕ) → answer (part_query root size total k) d ≡ Some (part k)
  told_slice slice k =
      let by_total : answer (part_query (root_cid d) size total k) d ≡ Some (part k) =
      subst (λ (n : ℕ). answer (part_query (root_cid d) size n k) d ≡ Some (slice_of (content d) (part_span size n k))) says.total_is
      (slice d size k sound says.file)
      in
      subst (λ (c : CidParts). answer (part_query c size total k) d ≡ Some (part k)) named by_total

  text_is : PartIsSlice → (k : ℕ) (text : List ℕ) → IsItsAnswer (part_query root size total k) d (all_sections connections) text
      → OrPair (text ≡ part k)
  text_is slice k text (inl is) =
      let both : Some text ≡ Some (part k) = sym is ∙ told_slice slice k in
      let same : text ≡ part k = cc in
      inl same
  text_is slice k text (inr pair) = inr pair

  one_more : (n : ℕ) (written text : List ℕ) → OrPair (written ≡ joined_to part n) → OrPair (text ≡ part n)
      → OrPair (written ++ text ≡ joined_to part (suc n))
  one_more n written text (inr pair) last = inr pair
  one_more n written text (inl first) (inr pair) = inr pair
  one_more n written text (inl first) (inl last) =
      inl (ap (λ (x : List ℕ). x ++ text) first ∙ ap (λ (x : List ℕ). joined_to part n ++ x) last)

  written_is : PartIsSlice → (n : ℕ) (written : List ℕ) → AreAccepted root size total connections n written
      → OrPair (written ≡ joined_to part n)
  written_is slice zero written connected.none = inl refl
  written_is slice (suc n) written (connected.more m before text first a) =
      one_more n before text (written_is slice n before first)
      (text_is slice n text (accepted_is connections (part_query root size total n) text d a sound named))

  -- the first parts are a front of the content
  front_is : SlicesJoin → (n : ℕ) → 0 < size → joined_to part n ≡ take (n * size) (content d)
  front_is slices n some =
      subst (λ (m : ℕ). joined_to (λ k. slice_of (content d) (part_span size m k)) n ≡ take (n * size) (content d)) says.length_is
      (slices size n (content d) some)

  -- all parts reach its end
  reaches : (n : ℕ) → 0 < size → part_count size total ≤ n → length (content d) ≤ n * size
  reaches n some most = omega (arith, says.length_is, enough size total some, mul-le-mul_right size most)

  by_parts : SlicesJoin → (n : ℕ) (written : List ℕ) → 0 < size → OrPair (written ≡ joined_to part n)
      → OrPair (IsFrontByParts size total n written d)
  by_parts slices n written some (inr pair) = inr pair
  by_parts slices n written some (inl is) =
      let front : written ≡ take (n * size) (content d) = is ∙ front_is slices n some in
      inl (record {
        says = says;
        rest = drop (n * size) (content d);
        front = sym (take-append-drop (n * size) (content d)) ∙ ap (λ (x : List ℕ). x ++ drop (n * size) (content d)) (sym front);
        all = λ most. front ∙ take_all (n * size) (content d) (reaches n some most);
      })

-- with the total that the accepted root block declares
with_total : SlicesJoin → PartIsSlice → (root : CidParts) (size total n : ℕ) (connections : List Connection) (written : List ℕ) (d : Dag)
    → 0 < size → AreAccepted root size total connections n written → IsSound d → root_cid d ≡ root
    → SaysTotal total d ⊎ CollisionPair (all_sections connections) d
    → IsFrontByParts size total n written d ⊎ CollisionPair (all_sections connections) d
with_total slices slice root size total n connections written d some a sound named (inl says) =
    by_parts root size total connections d sound named says slices n written some
    (written_is root size total connections d sound named says slice n written a)
with_total slices slice root size total n connections written d some a sound named (inr pair) = inr pair

pub parts_are_content : SlicesJoin → PartIsSlice → TotalIsTold → PartsAreContent
parts_are_content slices slice told root size total n connections written d some r a sound named =
    with_total slices slice root size total n connections written d some a sound named (told root connections total d r sound named)
