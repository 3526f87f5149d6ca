-- Roots with paths, and words: what is computed is what the grammar says.
use Rattle.std.proofs.Common.{All, Err, List, None, Ok, Option, Some, ap, arith, inl, inr, refl, subst, sym, ℕ, ◌++◌, ◌∙◌, ◌≡◌, ◌≢◌, ◌⊎◌}
use Rattle.std.specs.Prelude.{◌↔◌}
use Rattle.std.proofs.lemmas.List.Elements.{All-cons, All-weaker}
use Rattle.tg_bytes.specs.Ascii.{slash}
use Rattle.tg_base32.specs.Base32.{IsLetter}
use Rattle.tg_base32.specs.Laws.{TextLaws}
use Rattle.tg_cid.specs.Cid.{CidParts}
use Rattle.tg_cid.specs.Faults.{HasTextCause}
use Rattle.tg_cid.specs.Spelling.{CidText}
use Rattle.tg_cid.specs.declared.fault.CidFault.{CidFault}
use Rattle.tg_cid.specs.declared.fault.CidFault.TheVariants as faults
use Rattle.tg_query.specs.AnswerLaws.{bind_found, bind_ok}
use Rattle.tg_query.specs.Answers.{◌>>=◌}
use Rattle.tg_query.specs.CidAnswers.{CidAnswer, cid_answer, root_of, with_query_fault}
use Rattle.tg_query.specs.Cuts.{IsCut, behind, behind_front, cut_first}
use Rattle.tg_query.specs.Faults.{query_fault_of}
use Rattle.tg_query.specs.Paths.{PathBehind, path_behind}
use Rattle.tg_query.specs.WordTexts.{Rooted, RootedText, WordText, ipfs, or_whole, rooted_of, rooted_with, word_of}
use Rattle.tg_query.specs.declared.fault.QueryFault.{QueryFault}
use Rattle.tg_query.specs.declared.fault.QueryFault.TheVariants.{BadCid}
use Rattle.tg_query.proofs.CidAnswers.{IsOfText, answer_found, answer_told}
use Rattle.tg_query.proofs.FirstCuts.{cut_found, cut_told}
use Rattle.tg_query.proofs.Fronts.{front_found, front_told}
use Rattle.tg_query.proofs.Names.{NameLaw}
use Rattle.tg_query.proofs.PathTexts.{behind_found, behind_told}
use Rattle.tg_varint.specs.Laws.{SpellingLaws}

-- ---- roots

answer_ok : (r : CidAnswer) (cid : CidParts) → with_query_fault r ≡ Ok cid → r ≡ Ok cid
answer_ok (Ok found) cid e = cc
answer_ok (Err fault) cid e = absurd cc

pub root_told : SpellingLaws → TextLaws → (text : List ℕ) (cid : CidParts) → root_of text ≡ Ok cid → CidText cid text
root_told laws texts text cid e = subst (IsOfText text) (answer_ok (cid_answer text) cid e) (answer_told laws texts text)

pub root_found : SpellingLaws → TextLaws → (text : List ℕ) (cid : CidParts) → CidText cid text → root_of text ≡ Ok cid
root_found laws texts text cid h = ap with_query_fault (answer_found laws texts cid text h)

pub root_law : SpellingLaws → TextLaws → (text : List ℕ) (cid : CidParts) → (root_of text ≡ Ok cid) ↔ CidText cid text
root_law laws texts text cid = (root_told laws texts text cid, root_found laws texts text cid)

-- a refused root has its cause, which is never want of memory
wrapped : (text : List ℕ) (inner : CidFault) → HasTextCause text inner → query_fault_of inner ≡ BadCid inner
wrapped text faults.BadText h = refl
wrapped text (faults.BadVersion number) h = refl
wrapped text (faults.BadCodec number) h = refl
wrapped text (faults.BadHash number) h = refl
wrapped text (faults.BadLength number) h = refl
wrapped text (faults.Trailing at) h = refl
wrapped text (faults.Short at) h = refl
wrapped text (faults.BadVarint at) h = refl
wrapped text faults.OutOfMemory (inl h) = let e = h.0 in absurd cc
wrapped text faults.OutOfMemory (inr (inl h)) = let e = h.0 in absurd cc
wrapped text faults.OutOfMemory (inr (inr h)) = absurd h.cause

fault_of_answer : (text : List ℕ) (r : CidAnswer) (fault : QueryFault) → IsOfText text r → with_query_fault r ≡ Err fault
    → (inner : CidFault) × (fault ≡ BadCid inner) × HasTextCause text inner
fault_of_answer text (Ok cid) fault h e = absurd cc
fault_of_answer text (Err inner) fault h e =
    let w = wrapped text inner h in
    let same : query_fault_of inner ≡ fault = cc in
    (inner, sym same ∙ w, h)

pub root_fault : SpellingLaws → TextLaws → (text : List ℕ) (fault : QueryFault) → root_of text ≡ Err fault
    → (inner : CidFault) × (fault ≡ BadCid inner) × HasTextCause text inner
root_fault laws texts text fault e = fault_of_answer text (cid_answer text) fault (answer_told laws texts text) e

-- ---- a root and a path

-- the letters of a CID's text are no slash and no `?`
letter_not : (b : ℕ) → IsLetter b → b ≢ 47
letter_not b (inl h) e = omega (arith, h.0, e)
letter_not b (inr h) e = omega (arith, h.0, e)

no_slash : (cid : CidParts) (text : List ℕ) → CidText cid text → All (λ (b : ℕ). b ≢ 47) text
no_slash cid text h =
    subst (λ (l : List ℕ). All (λ (b : ℕ). b ≢ 47) l) (sym h.in_base.begins)
    (All-cons (λ (b : ℕ). b ≢ 47) 98 h.in_base.letters (λ e. omega (arith, e))
    (All-weaker IsLetter (λ (b : ℕ). b ≢ 47) letter_not h.in_base.letters h.in_base.rest.letters))

rooted_told_at : SpellingLaws → TextLaws → NameLaw → (text front : List ℕ) (rest : Option (List ℕ)) → IsCut slash text front rest → (root : CidParts) (path : List (List ℕ))
    → rooted_with (front, rest) ≡ Ok (root, path) → RootedText text root path
rooted_told_at laws texts good text front rest cut root path e =
    let first = bind_ok (root_of front) (λ root. path_behind rest >>= λ path. Ok (root, path)) (root, path) e in
    let second = bind_ok (path_behind rest) (λ path. Ok (first.0, path)) (root, path) first.2 in
    let pair : ◌≡◌ {A = Rooted} (first.0, second.0) (root, path) = cc (second.2) in
    let is_root : first.0 ≡ root = ap (λ (p : Rooted). p.0) pair in
    let is_path : second.0 ≡ path = ap (λ (p : Rooted). p.1) pair in
    record {
      root_text = front;
      rest = rest;
      whole = cut.whole;
      root_is = subst (λ (c : CidParts). CidText c front) is_root (root_told laws texts front first.0 first.1);
      path_is = subst (PathBehind rest) is_path (behind_told good rest second.0 second.1);
    }

pub rooted_told : SpellingLaws → TextLaws → NameLaw → (text : List ℕ) (root : CidParts) (path : List (List ℕ)) → rooted_of text ≡ Ok (root, path) → RootedText text root path
rooted_told laws texts good text root path e = rooted_told_at laws texts good text (cut_first slash text).0 (cut_first slash text).1 (cut_told slash text) root path e

pub rooted_found : SpellingLaws → TextLaws → NameLaw → (text : List ℕ) (root : CidParts) (path : List (List ℕ)) → RootedText text root path → rooted_of text ≡ Ok (root, path)
rooted_found laws texts good text root path h =
    let cut = cut_found slash text h.root_text h.rest (record { whole = h.whole; none = no_slash root h.root_text h.root_is }) in
    ap rooted_with cut
    ∙ bind_found (root_of h.root_text) (λ root. path_behind h.rest >>= λ path. Ok (root, path)) root (Ok (root, path)) (root_found laws texts h.root_text root h.root_is)
    (bind_found (path_behind h.rest) (λ path. Ok (root, path)) path (Ok (root, path)) (behind_found good h.rest path h.path_is) refl)

pub rooted_law : SpellingLaws → TextLaws → NameLaw → (text : List ℕ) (root : CidParts) (path : List (List ℕ)) → (rooted_of text ≡ Ok (root, path)) ↔ RootedText text root path
rooted_law laws texts good text root path = (rooted_told laws texts good text root path, rooted_found laws texts good text root path)

-- ---- words

word_told_at : SpellingLaws → TextLaws → NameLaw → (word : List ℕ) (o : Option (List ℕ)) → behind_front ipfs word ≡ o → (root : CidParts) (path : List (List ℕ))
    → rooted_of (or_whole word o) ≡ Ok (root, path) → WordText word root path
word_told_at laws texts good word None f root path e = record { text = word; front = inl refl; rooted = rooted_told laws texts good word root path e }
word_told_at laws texts good word (Some rest) f root path e =
    record { text = rest; front = inr (front_told ipfs word rest f); rooted = rooted_told laws texts good rest root path e }

-- a CID's text doesn't begin with a slash
plain_front : (text : List ℕ) (root : CidParts) (path : List (List ℕ)) → RootedText text root path → behind_front ipfs text ≡ None
plain_front text root path h = ap (behind_front ipfs) (h.whole ∙ ap (λ (l : List ℕ). l ++ behind slash h.rest) h.root_is.in_base.begins)

word_front : (word text : List ℕ) (root : CidParts) (path : List (List ℕ)) → RootedText text root path → (word ≡ text) ⊎ (word ≡ ipfs ++ text)
    → or_whole word (behind_front ipfs word) ≡ text
word_front word text root path h (inl e) = ap (or_whole word) (ap (behind_front ipfs) e ∙ plain_front text root path h) ∙ e
word_front word text root path h (inr e) = ap (or_whole word) (ap (behind_front ipfs) e ∙ front_found ipfs text)

pub word_law : SpellingLaws → TextLaws → NameLaw → (word : List ℕ) (root : CidParts) (path : List (List ℕ)) → (word_of word ≡ Ok (root, path)) ↔ WordText word root path
word_law laws texts good word root path = (
  λ e. word_told_at laws texts good word (behind_front ipfs word) refl root path e,
  λ h. ap rooted_of (word_front word h.text root path h.rooted h.front) ∙ rooted_found laws texts good h.text root path h.rooted,
)
