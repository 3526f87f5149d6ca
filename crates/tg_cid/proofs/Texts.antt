-- What `from_text` answers.
use Rattle.std.proofs.Common.{◌≡◌, ℕ, ◌≤◌, ◌⊎◌, List, [], ◌∷◌, length, take, drop, get_or, ◌-◌, arith, Result, Ok, Err, IfOk, IfErr, refl, ap, sym, ◌∙◌, subst, inl, inr}
use Rattle.std.specs.Prelude.{MatchResult, IsErrOf}
use Rattle.std.proofs.lemmas.List.{take_rest}
use Rattle.tg_base32.specs.Base32.{Base32Text}
use Rattle.tg_base32.specs.declared.Base32Fault.{Base32Fault}
use Rattle.tg_base32.specs.declared.Base32Fault.TheVariants as base32
use Rattle.tg_base32.specs.Laws.{TextLaws}
use Rattle.tg_varint.specs.Laws.{SpellingLaws}
use Rattle.tg_cid.specs.Cid.{CidParts}
use Rattle.tg_cid.specs.Faults.{HasBytesCause, HasTextCause, cid_fault_of}
use Rattle.tg_cid.specs.Spelling.{CidBytes, CidV1Bytes, CidText, MultibaseText}
use Rattle.tg_cid.specs.declared.fault.CidFault.{CidFault}
use Rattle.tg_cid.specs.declared.fault.CidFault.TheVariants as faults
use Rattle.tg_cid.proofs.Prefix.{one_begins}
use Rattle.tg_cid.proofs.Whole.{WholeAnswers}

-- the clauses of `from_text`
pub record TextAnswers (text : List ℕ) (r : Result CidParts CidFault) : Type 0 where
  pub found : IfOk r (λ cid. CidText cid text)
  pub only : (cid : CidParts) → CidText cid text → MatchResult r (λ found. found ≡ cid) (λ e. e ≡ faults.OutOfMemory)
  pub cause : IfErr r (λ e. (e ≡ faults.OutOfMemory) ⊎ HasTextCause text e)
  pub given : (fault : CidFault) → HasTextCause text fault → (r ≡ Err fault) ⊎ (r ≡ Err faults.OutOfMemory)
  pub memory : IsErrOf r faults.OutOfMemory → (bytes : List ℕ) × MultibaseText text bytes

other_fault : (fault : CidFault) (Wanted : Type 0) → (fault ≡ faults.OutOfMemory → ⊥) → ◌≡◌ {A = Result CidParts CidFault} (Err fault) (Err faults.OutOfMemory) → Wanted
other_fault fault Wanted other e = let same : fault ≡ faults.OutOfMemory = cc in absurd (other same)

none_answers : (text : List ℕ) → ((bytes : List ℕ) → MultibaseText text bytes → ⊥) → TextAnswers text (Err faults.BadText)
none_answers text none = record {
  found = tt;
  only = λ cid h. absurd (none h.bytes h.in_base);
  cause = inr (inl (refl, record { none = none }));
  given = λ fault h. elim h [
    | inl p ↦ inl (ap Err (sym p.0))
    | inr k ↦ elim k [
      | inl p ↦ absurd (none _ p.1.in_base)
      | inr q ↦ absurd (none _ q.in_base)
    ]
  ];
  memory = λ w. other_fault faults.BadText _ (λ e. cc) w;
}

-- a text without the letter
pub no_letter : (text : List ℕ) → ((letters : List ℕ) → text ≡ 98 ∷ letters → ⊥) → TextAnswers text (Err faults.BadText)
no_letter text none = none_answers text (λ bytes m. none m.letters m.begins)

same_letters : (text letters bytes : List ℕ) → text ≡ 98 ∷ letters → MultibaseText text bytes → Base32Text letters bytes
same_letters text letters bytes e m =
    let same : m.letters ≡ letters = let whole : 98 ∷ m.letters ≡ 98 ∷ letters = sym m.begins ∙ e in cc in
    subst (λ (l : List ℕ). Base32Text l bytes) same m.rest

wanting : (text : List ℕ) → ((bytes : List ℕ) × MultibaseText text bytes) → TextAnswers text (Err faults.OutOfMemory)
wanting text good = record { found = tt; only = λ cid h. refl; cause = inl refl; given = λ fault h. inr refl; memory = λ w. good }

in_base : (text letters bytes : List ℕ) → text ≡ 98 ∷ letters → Base32Text letters bytes → MultibaseText text bytes
in_base text letters bytes e b = record { letters = letters; begins = e; rest = b }

-- a rest that isn't base 32, or for which memory is wanted
pub no_base : (text letters : List ℕ) (fault : Base32Fault) → text ≡ 98 ∷ letters
    → ((bytes : List ℕ) → Base32Text letters bytes → fault ≡ base32.OutOfMemory)
    → (fault ≡ base32.OutOfMemory → (bytes : List ℕ) × Base32Text letters bytes) → TextAnswers text (Err (cid_fault_of fault))
no_base text letters (base32.BadChar at) e wants good =
    none_answers text (λ bytes m. let same : base32.BadChar at ≡ base32.OutOfMemory = wants bytes (same_letters text letters bytes e m) in cc)
no_base text letters base32.BadLength e wants good =
    none_answers text (λ bytes m. let same : base32.BadLength ≡ base32.OutOfMemory = wants bytes (same_letters text letters bytes e m) in cc)
no_base text letters base32.BadTail e wants good =
    none_answers text (λ bytes m. let same : base32.BadTail ≡ base32.OutOfMemory = wants bytes (same_letters text letters bytes e m) in cc)
no_base text letters base32.OutOfMemory e wants good = let found = good refl in wanting text (found.0, in_base text letters found.0 e found.1)

same_bytes : TextLaws → (text letters a b : List ℕ) → text ≡ 98 ∷ letters → Base32Text letters a → MultibaseText text b → b ≡ a
same_bytes texts text letters a b e p m = texts.one_reading letters b a (same_letters text letters b e m) p

-- bytes that begin with 0x12
pub as_zero : SpellingLaws → TextLaws → (text letters bytes rest : List ℕ) → text ≡ 98 ∷ letters → Base32Text letters bytes → bytes ≡ 0x12 ∷ rest
    → TextAnswers text (Err (faults.BadVersion 18))
as_zero laws texts text letters bytes rest e b first = record {
  found = tt;
  only = λ cid h. absurd (one_begins laws cid h.bytes rest h.in_bytes (same_bytes texts text letters bytes h.bytes e b h.in_base ∙ first));
  cause = inr (inr (inl (refl, record { rest = rest; in_base = subst (MultibaseText text) first (in_base text letters bytes e b) })));
  given = λ fault h. elim h [
    | inl p ↦ absurd (p.1.none bytes (in_base text letters bytes e b))
    | inr k ↦ elim k [
      | inl p ↦ inl (ap Err (sym p.0))
      | inr q ↦ absurd (q.other rest (same_bytes texts text letters bytes q.bytes e b q.in_base ∙ first))
    ]
  ];
  memory = λ w. (bytes, in_base text letters bytes e b);
}

text_of : (text letters bytes : List ℕ) (cid : CidParts) → text ≡ 98 ∷ letters → Base32Text letters bytes
    → ((rest : List ℕ) → bytes ≡ 0x12 ∷ rest → ⊥) → CidBytes cid bytes → CidText cid text
text_of text letters bytes cid e b other (inl h) = absurd (other (0x20 ∷ cid.digest) h.whole)
text_of text letters bytes cid e b other (inr h) = record { bytes = bytes; in_base = in_base text letters bytes e b; in_bytes = h }

given_bytes : TextLaws → (text letters bytes : List ℕ) (r : Result CidParts CidFault) → text ≡ 98 ∷ letters → Base32Text letters bytes
    → ((rest : List ℕ) → bytes ≡ 0x12 ∷ rest → ⊥) → WholeAnswers bytes r → (fault : CidFault) → HasTextCause text fault → r ≡ Err fault
given_bytes texts text letters bytes r e b other w fault (inl p) = absurd (p.1.none bytes (in_base text letters bytes e b))
given_bytes texts text letters bytes r e b other w fault (inr (inl p)) =
    absurd (other p.1.rest (sym (same_bytes texts text letters bytes (0x12 ∷ p.1.rest) e b p.1.in_base)))
given_bytes texts text letters bytes r e b other w fault (inr (inr q)) =
    w.given fault (subst (λ (l : List ℕ). HasBytesCause l fault) (same_bytes texts text letters bytes q.bytes e b q.in_base) q.cause)

-- other bytes answer by themselves
pub by_bytes : TextLaws → (text letters bytes : List ℕ) (r : Result CidParts CidFault) → text ≡ 98 ∷ letters → Base32Text letters bytes
    → ((rest : List ℕ) → bytes ≡ 0x12 ∷ rest → ⊥) → WholeAnswers bytes r → TextAnswers text r
by_bytes texts text letters bytes (Ok cid) e b other w = record {
  found = text_of text letters bytes cid e b other w.found;
  only = λ known h.
      let same : ◌≡◌ {A = Result CidParts CidFault} (Ok cid) (Ok known) =
      w.only known (inr (subst (λ (l : List ℕ). CidV1Bytes known l) (same_bytes texts text letters bytes h.bytes e b h.in_base) h.in_bytes)) in
      cc;
  cause = tt;
  given = λ fault h. inl (given_bytes texts text letters bytes (Ok cid) e b other w fault h);
  memory = λ wants. (bytes, in_base text letters bytes e b);
}
by_bytes texts text letters bytes (Err known) e b other w = record {
  found = tt;
  only = λ cid h.
      let same : ◌≡◌ {A = Result CidParts CidFault} (Err known) (Ok cid) =
      w.only cid (inr (subst (λ (l : List ℕ). CidV1Bytes cid l) (same_bytes texts text letters bytes h.bytes e b h.in_base) h.in_bytes)) in
      absurd cc;
  cause = inr (inr (inr (record { bytes = bytes; in_base = in_base text letters bytes e b; other = other; cause = w.cause })));
  given = λ fault h. inl (given_bytes texts text letters bytes (Err known) e b other w fault h);
  memory = λ wants. (bytes, in_base text letters bytes e b);
}

-- a list by its first
pub begins_with : (list : List ℕ) (first : ℕ) → 1 ≤ length list → get_or list 0 0 ≡ first → list ≡ first ∷ drop 1 list
begins_with [] first l e = absurd (omega arith)
begins_with (x ∷ rest) first l e = ap (λ (n : ℕ). n ∷ rest) e

pub begins_rest : (list : List ℕ) (first : ℕ) → 1 ≤ length list → get_or list 0 0 ≡ first → list ≡ first ∷ take (length list - 1) (drop 1 list)
begins_rest list first l e = begins_with list first l e ∙ ap (λ (rest : List ℕ). first ∷ rest) (sym (take_rest list 1))

pub begins_other : (list : List ℕ) (first : ℕ) → (1 ≤ length list → get_or list 0 0 ≡ first → ⊥) → (rest : List ℕ) → list ≡ first ∷ rest → ⊥
begins_other list first other rest e =
    let long : length list ≡ length (first ∷ rest) = ap length e in
    other (omega arith) (ap (λ (l : List ℕ). get_or l 0 0) e)
