-- The CID or the fault that is computed of a text is the one that the grammar gives.
use Rattle.std.proofs.Common.{Err, List, None, Ok, Option, Some, [], ap, arith, false, inl, inr, length, refl, subst, sym, take, drop, true, ℕ, ◌++◌, ◌-◌, ◌<◌, ◌≤◌, ◌∙◌, ◌∷◌, ◌≡◌, ◌⊎◌}
use Rattle.std.specs.List.{list_all}
use Rattle.std.specs.Bool.{Decides}
use Rattle.std.specs.Prelude.{MatchResult, if◌then◌else◌, nat_le, nat_lt, ◌↔◌, ◌==◌}
use Rattle.std.proofs.lemmas.Bool.{cond-false, cond-true, cond_both, eqb-false, eqb-true, le-leb, le-ltb, leb-true, ltb-false, ltb-true}
use Rattle.std.proofs.lemmas.Bool.Decides.{Decides-and, Decides-by_and, Decides-ltb}
use Rattle.std.proofs.lemmas.List.{append_assoc, length-append, length-take-le, take-append-drop}
use Rattle.std.proofs.lemmas.List.Elements.{All-take}
use Rattle.tg_base32.specs.Base32.{Base32Text}
use Rattle.tg_base32.specs.Laws.{TextLaws}
use Rattle.tg_bytes.specs.Lists.{AreBytes, behind_parts, rest_bytes}
use Rattle.tg_cid.specs.Cid.{CidParts}
use Rattle.tg_cid.specs.CodeLaws.{code_is, size_decides, varints_push}
use Rattle.tg_cid.specs.Computed.{is_digest_size}
use Rattle.tg_cid.specs.Faults.{Follows, HasBytesCause, HasTextCause, IsCodec, IsHash, IsVersionZero, MayBegin}
use Rattle.tg_cid.specs.Spelling.{CidText, CidV1Bytes, IsDigestSize, MultibaseText, Varints, codec_code, hash_code}
use Rattle.tg_cid.specs.declared.cid.Codec.{Codec}
use Rattle.tg_cid.specs.declared.cid.Codec.TheVariants.{DagPb, Raw}
use Rattle.tg_cid.specs.declared.cid.HashKind.{HashKind}
use Rattle.tg_cid.specs.declared.cid.HashKind.TheVariants.{Identity, Sha256}
use Rattle.tg_cid.specs.declared.fault.CidFault.{CidFault}
use Rattle.tg_cid.specs.declared.fault.CidFault.TheVariants as faults
use Rattle.tg_varint.specs.Computed.{front_number}
use Rattle.tg_varint.specs.Laws.{Begins, SpellingLaws, VarintFront}
use Rattle.tg_varint.specs.Laws.VarintFront.{inside, not_shortest, spelled, too_long}
use Rattle.tg_varint.specs.Varint.{AllGoOn, VarintSpelling}
use Rattle.tg_query.specs.Answers.{Gives}
use Rattle.tg_query.specs.CidAnswers.{CidAnswer, begins_with, by_codec, by_hash, by_size, by_version, bytes_answer, bytes_of_letters, cid_answer, codec_then, digest_then, ends_inside, hash_then, number_fault, number_then, root_of, size_then, text_answer, version_then, with_query_fault}
use Rattle.tg_query.proofs.Letters.{letters_found, letters_told}

-- ---- numbers one after another

-- the numbers stand at the front of bytes that are no CIDv0, and the rest follows them
record Reached (numbers all rest : List ℕ) : Type 0 where
  other : IsVersionZero all → ⊥
  at : ℕ
  follows : Follows numbers all at rest
  are : AreBytes rest

more_reached : (numbers all rest : List ℕ) (n : ℕ) (a after : List ℕ) → Reached numbers all rest → rest ≡ a ++ after → VarintSpelling n a
    → Reached (numbers ++ n ∷ []) all after
more_reached numbers all rest n a after r e v = record {
  other = r.other;
  at = length (r.follows.front ++ a);
  follows = record {
    front = r.follows.front ++ a;
    whole = r.follows.whole ∙ (ap (λ (l : List ℕ). r.follows.front ++ l) e ∙ sym (append_assoc r.follows.front a after));
    at_is = refl;
    spelled = varints_push numbers r.follows.front n a r.follows.spelled v;
  };
  are = rest_bytes a after (subst AreBytes e r.are);
}

-- how many bytes stand before the rest
place : (numbers all rest : List ℕ) → (r : Reached numbers all rest) → length all - length rest ≡ r.at
place numbers all rest r =
    omega (arith, ap length r.follows.whole, length-append r.follows.front rest, r.follows.at_is)

go_on_decides : (bytes : List ℕ) → Decides (list_all (nat_le 128) bytes) (AllGoOn bytes)
go_on_decides bytes = Decides-by_and (nat_le 128) (λ (b : ℕ). 128 ≤ b) (list_all (nat_le 128)) (λ b. (leb-true 128 b, le-leb 128 b)) refl (λ _ _. refl) bytes

inside_decides : (bytes : List ℕ) → Decides (ends_inside bytes) (AllGoOn bytes × (length bytes < 9))
inside_decides bytes = Decides-and (list_all (nat_le 128) bytes) (nat_lt (length bytes) 9) (go_on_decides bytes) (Decides-ltb (length bytes) 9)

-- the fault where no number is spelled
fault_told : SpellingLaws → (numbers all rest : List ℕ) → Reached numbers all rest → MayBegin numbers → front_number rest ≡ None
    → HasBytesCause all (number_fault (length all) rest)
fault_told laws numbers all rest r may none =
    cond_both (ends_inside rest) (faults.Short (length all)) (faults.BadVarint (length all - length rest)) (HasBytesCause all)
    (λ t.
    let ends = (inside_decides rest).0 t in (
      refl,
      inr (inl (record {
        numbers = numbers;
        at = r.at;
        rest = rest;
        other = r.other;
        begins = may;
        follows = r.follows;
        ends = record { goes_on = ends.0; fewer = ends.1 };
      })),
    ))
    (λ f.
    subst (λ (n : ℕ). HasBytesCause all (faults.BadVarint n)) (sym (place numbers all rest r))
    (by_front (laws.some_front rest r.are).0 (laws.some_front rest r.are).1 f))
  where
    by_front : (p : VarintFront) → Begins rest p → ends_inside rest ≡ false → HasBytesCause all (faults.BadVarint r.at)
    by_front (spelled n a) b f =
        let found : front_number rest ≡ Some (n, b.0) = (laws.read rest r.are n b.0).1 (a, b.1, b.2) in
        absurd cc
    by_front inside b f =
        let holds = (inside_decides rest).1 (b.goes_on, b.fewer) in
        absurd cc
    by_front too_long b f = record { numbers = numbers; rest = rest; begins = may; follows = r.follows; bad = inl b }
    by_front not_shortest b f = record { numbers = numbers; rest = rest; begins = may; follows = r.follows; bad = inr b }

-- an answer is the one of the grammar
abbrev Is : List ℕ → CidAnswer → Type 0
Is all (Ok cid) = CidV1Bytes cid all
Is all (Err fault) = HasBytesCause all fault

then_told : SpellingLaws → (numbers all rest : List ℕ) → Reached numbers all rest → MayBegin numbers → (next : ℕ → List ℕ → CidAnswer)
    → ((n : ℕ) (after : List ℕ) → Reached (numbers ++ n ∷ []) all after → Is all (next n after))
    → (o : Option (ℕ × List ℕ)) → front_number rest ≡ o → Is all (number_then (length all) rest o next)
then_told laws numbers all rest r may next tell None e = fault_told laws numbers all rest r may e
then_told laws numbers all rest r may next tell (Some found) e =
    let told = (laws.read rest r.are found.0 found.1).0 e in
    tell found.0 found.1 (more_reached numbers all rest found.0 told.0 found.1 r told.1 told.2)

-- ---- the steps, the last one first

abbrev numbers_of : Codec → HashKind → ℕ → List ℕ
numbers_of codec hash size = 1 ∷ codec_code codec ∷ hash_code hash ∷ size ∷ []

-- a CIDv1 of a digest behind its numbers
v1_told : (codec : Codec) (hash : HashKind) (digest front bytes : List ℕ) → bytes ≡ front ++ digest → AreBytes digest
    → IsDigestSize hash (length digest) → Varints (numbers_of codec hash (length digest)) front
    → CidV1Bytes (record { version = 1; codec = codec; hash = hash; digest = digest }) bytes
v1_told codec hash digest front bytes e are is v =
    record { version = refl; size = is; are_bytes = are; head = front; numbers = v; whole = e }

digest_told : (all : List ℕ) (codec : Codec) (hash : HashKind) (size : ℕ) (digest : List ℕ) → Reached (numbers_of codec hash size) all digest
    → IsDigestSize hash size → Is all (digest_then (length all) codec hash size digest)
digest_told all codec hash size digest r is =
    let cid : CidParts = record { version = 1; codec = codec; hash = hash; digest = digest } in
    let long : CidAnswer = if nat_lt size (length digest) then Err (faults.Trailing (length all - (length digest - size))) else Ok cid in
    cond_both (nat_lt (length digest) size) (Err (faults.Short (length all))) long (Is all)
    (λ t. (
      refl,
      inr (inr (record {
        codec = codec_code codec;
        hash = hash;
        size = size;
        at = r.at;
        rest = digest;
        codec_is = code_is codec;
        size_is = is;
        follows = r.follows;
        fewer = ltb-true (length digest) size t;
      })),
    ))
    (λ f. cond_both (nat_lt size (length digest)) (Err (faults.Trailing (length all - (length digest - size)))) (Ok cid) (Is all)
    (λ t. trailing (ltb-true size (length digest) t))
    (λ g.
    let same : length digest ≡ size = omega (arith, ltb-false (length digest) size f, ltb-false size (length digest) g) in
    v1_told codec hash digest r.follows.front all r.follows.whole r.are (subst (IsDigestSize hash) (sym same) is)
    (subst (λ (n : ℕ). Varints (numbers_of codec hash n) r.follows.front) (sym same) r.follows.spelled)))
  where
    trailing : size < length digest → HasBytesCause all (faults.Trailing (length all - (length digest - size)))
    trailing more =
        let front = r.follows.front in
        let own = take size digest in
        let rest = drop size digest in
        let parts : own ++ rest ≡ digest = take-append-drop size digest in
        let long : length own ≡ size = length-take-le size digest (omega (arith, more)) in
        let whole : all ≡ (front ++ own) ++ rest =
        r.follows.whole ∙ (ap (λ (l : List ℕ). front ++ l) (sym parts) ∙ sym (append_assoc front own rest)) in
        record {
          cid = record { version = 1; codec = codec; hash = hash; digest = own };
          front = front ++ own;
          rest = rest;
          spelled =
              inr
              (v1_told codec hash own front (front ++ own) refl (All-take (λ (b : ℕ). b < 256) size digest r.are) (subst (IsDigestSize hash) (sym long) is)
              (subst (λ (n : ℕ). Varints (numbers_of codec hash n) front) (sym long) r.follows.spelled));
          whole = whole;
          at_is = omega (arith, ap length whole, length-append (front ++ own) rest, ap length (sym parts), length-append own rest, long, more);
          more = omega (arith, ap length parts, length-append own rest, long, more);
        }

size_told : (all : List ℕ) (codec : Codec) (hash : HashKind) (n : ℕ) (after : List ℕ) → Reached (numbers_of codec hash n) all after
    → Is all (by_size (length all) codec hash n after)
size_told all codec hash n after r =
    cond_both (is_digest_size hash n) (digest_then (length all) codec hash n after) (Err (faults.BadLength n)) (Is all)
    (λ t. digest_told all codec hash n after r ((size_decides hash n).0 t))
    (λ f. (
      codec_code codec,
      hash,
      code_is codec,
      record { at = r.at; rest = after; other = r.other; follows = r.follows },
      λ h. let holds = (size_decides hash n).1 h in absurd cc,
    ))

hash_told : SpellingLaws → (all : List ℕ) (codec : Codec) (n : ℕ) (after : List ℕ) → Reached (1 ∷ codec_code codec ∷ n ∷ []) all after
    → Is all (by_hash (length all) codec n after)
hash_told laws all codec n after r =
    cond_both (n == 0x12) (size_then (length all) codec Sha256 after) (if n == 0x00 then size_then (length all) codec Identity after else Err (faults.BadHash n)) (Is all)
    (λ t. under Sha256 (eqb-true n 0x12 t))
    (λ f. cond_both (n == 0x00) (size_then (length all) codec Identity after) (Err (faults.BadHash n)) (Is all)
    (λ t. under Identity (eqb-true n 0x00 t))
    (λ g. (codec_code codec, code_is codec, record { at = r.at; rest = after; other = r.other; follows = r.follows }, none f g)))
  where
    under : (hash : HashKind) → n ≡ hash_code hash → Is all (size_then (length all) codec hash after)
    under hash e =
        let here : Reached (1 ∷ codec_code codec ∷ hash_code hash ∷ []) all after =
        subst (λ (k : ℕ). Reached (1 ∷ codec_code codec ∷ k ∷ []) all after) e r in
        then_told laws (1 ∷ codec_code codec ∷ hash_code hash ∷ []) all after here (refl, code_is codec, (hash, refl)) (by_size (length all) codec hash)
        (λ size digest q. size_told all codec hash size digest q) (front_number after) refl

    none : (n == 0x12) ≡ false → (n == 0x00) ≡ false → IsHash n → ⊥
    none f g (Sha256, e) = eqb-false n 0x12 f e
    none f g (Identity, e) = eqb-false n 0x00 g e

codec_told : SpellingLaws → (all : List ℕ) (n : ℕ) (after : List ℕ) → Reached (1 ∷ n ∷ []) all after → Is all (by_codec (length all) n after)
codec_told laws all n after r =
    cond_both (n == 0x55) (hash_then (length all) Raw after) (if n == 0x70 then hash_then (length all) DagPb after else Err (faults.BadCodec n)) (Is all)
    (λ t. under Raw (eqb-true n 0x55 t))
    (λ f. cond_both (n == 0x70) (hash_then (length all) DagPb after) (Err (faults.BadCodec n)) (Is all)
    (λ t. under DagPb (eqb-true n 0x70 t))
    (λ g. (record { at = r.at; rest = after; other = r.other; follows = r.follows }, none f g)))
  where
    under : (codec : Codec) → n ≡ codec_code codec → Is all (hash_then (length all) codec after)
    under codec e =
        let here : Reached (1 ∷ codec_code codec ∷ []) all after = subst (λ (k : ℕ). Reached (1 ∷ k ∷ []) all after) e r in
        then_told laws (1 ∷ codec_code codec ∷ []) all after here (refl, code_is codec) (by_hash (length all) codec)
        (λ code rest q. hash_told laws all codec code rest q) (front_number after) refl

    none : (n == 0x55) ≡ false → (n == 0x70) ≡ false → IsCodec n → ⊥
    none f g (inl e) = eqb-false n 0x55 f e
    none f g (inr e) = eqb-false n 0x70 g e

version_told : SpellingLaws → (all : List ℕ) (n : ℕ) (after : List ℕ) → Reached (n ∷ []) all after → Is all (by_version (length all) n after)
version_told laws all n after r =
    cond_both (n == 1) (codec_then (length all) after) (Err (faults.BadVersion n)) (Is all)
    (λ t.
    let here : Reached (1 ∷ []) all after = subst (λ (k : ℕ). Reached (k ∷ []) all after) (eqb-true n 1 t) r in
    then_told laws (1 ∷ []) all after here refl (by_codec (length all)) (λ code rest q. codec_told laws all code rest q) (front_number after) refl)
    (λ f. (record { at = r.at; rest = after; other = r.other; follows = r.follows }, eqb-false n 1 f))

one_told : SpellingLaws → (all : List ℕ) → AreBytes all → (IsVersionZero all → ⊥) → Is all (version_then (length all) all)
one_told laws all are other =
    then_told laws [] all all
    (record { other = other; at = 0; follows = record { front = []; whole = refl; at_is = refl; spelled = refl }; are = are })
    tt (by_version (length all)) (λ n after q. version_told laws all n after q) (front_number all) refl

-- ---- the text

zero_begins : (bytes : List ℕ) → begins_with 0x12 bytes ≡ false → (rest : List ℕ) → bytes ≡ 0x12 ∷ rest → ⊥
zero_begins [] f rest e = absurd cc
zero_begins (b ∷ bytes) f rest e = eqb-false b 0x12 f (cc)

begins_zero : (bytes : List ℕ) → begins_with 0x12 bytes ≡ true → (rest : List ℕ) × (bytes ≡ 0x12 ∷ rest)
begins_zero [] t = absurd cc
begins_zero (b ∷ bytes) t = (bytes, ap (λ (n : ℕ). n ∷ bytes) (eqb-true b 0x12 t))

no_zero : (bytes : List ℕ) → begins_with 0x12 bytes ≡ false → IsVersionZero bytes → ⊥
no_zero bytes f z = elim z.begins [ inl e ↦ zero_begins bytes f [] e | inr e ↦ zero_begins bytes f (0x20 ∷ z.rest) e ]

-- what a text's answer says of it
abbrev pub IsOfText : List ℕ → CidAnswer → Type 0
IsOfText text (Ok cid) = CidText cid text
IsOfText text (Err fault) = HasTextCause text fault

in_text : (text bytes : List ℕ) → MultibaseText text bytes → ((rest : List ℕ) → bytes ≡ 0x12 ∷ rest → ⊥) → (r : CidAnswer) → Is bytes r → IsOfText text r
in_text text bytes base other (Ok cid) h = record { bytes = bytes; in_base = base; in_bytes = h }
in_text text bytes base other (Err fault) h = inr (inr (record { bytes = bytes; in_base = base; other = other; cause = h }))

bytes_told : SpellingLaws → (text bytes : List ℕ) → MultibaseText text bytes → IsOfText text (bytes_answer bytes)
bytes_told laws text bytes base =
    cond_both (begins_with 0x12 bytes) (Err (faults.BadVersion 18)) (version_then (length bytes) bytes) (IsOfText text)
    (λ t.
    let found = begins_zero bytes t in
    inr (inl (refl, record { rest = found.0; in_base = subst (MultibaseText text) found.1 base })))
    (λ f.
    in_text text bytes base (zero_begins bytes f) (version_then (length bytes) bytes)
    (one_told laws bytes base.rest.are_bytes (no_zero bytes f)))

no_base : (text : List ℕ) → ((bytes : List ℕ) → MultibaseText text bytes → ⊥) → IsOfText text (Err faults.BadText)
no_base text none = inl (refl, record { none = none })

letters_answer : SpellingLaws → TextLaws → (first : ℕ) (letters : List ℕ) → first ≡ 98 → (o : Option (List ℕ)) → bytes_of_letters letters ≡ o
    → IsOfText (first ∷ letters) (text_answer o)
letters_answer laws texts first letters b None e = no_base (first ∷ letters) none
  where
    none : (bytes : List ℕ) → MultibaseText (first ∷ letters) bytes → ⊥
    none bytes m =
        let same : letters ≡ m.letters = let whole = m.begins in cc in
        let found = letters_found texts letters bytes (subst (λ (l : List ℕ). Base32Text l bytes) (sym same) m.rest) in
        absurd cc
letters_answer laws texts first letters b (Some bytes) e =
    bytes_told laws (first ∷ letters) bytes
    (record { letters = letters; begins = ap (λ (n : ℕ). n ∷ letters) b; rest = letters_told texts letters bytes e })

-- the answer that is computed of a text is that of the grammar
pub answer_told : SpellingLaws → TextLaws → (text : List ℕ) → IsOfText text (cid_answer text)
unfolding cid_answer
answer_told laws texts [] = no_base [] (λ bytes m. let whole = m.begins in absurd cc)
answer_told laws texts (first ∷ letters) =
    cond_both (first == 98) (text_answer (bytes_of_letters letters)) (Err faults.BadText) (IsOfText (first ∷ letters))
    (λ t. letters_answer laws texts first letters (eqb-true first 98 t) (bytes_of_letters letters) refl)
    (λ f. no_base (first ∷ letters) (λ bytes m. let whole = m.begins in eqb-false first 98 f (cc)))

-- ---- a CID's text has it as its answer

number_answer : SpellingLaws → (total : ℕ) (next : ℕ → List ℕ → CidAnswer) (n : ℕ) (a rest bytes : List ℕ) → AreBytes bytes → bytes ≡ a ++ rest
    → VarintSpelling n a → number_then total bytes (front_number bytes) next ≡ next n rest
number_answer laws total next n a rest bytes are e v =
    ap (λ (o : Option (ℕ × List ℕ)). number_then total bytes o next) ((laws.read bytes are n rest).1 (a, e, v))

codec_answer : (total : ℕ) (codec : Codec) (rest : List ℕ) → by_codec total (codec_code codec) rest ≡ hash_then total codec rest
codec_answer total Raw rest = refl
codec_answer total DagPb rest = refl

hash_answer : (total : ℕ) (codec : Codec) (hash : HashKind) (rest : List ℕ) → by_hash total codec (hash_code hash) rest ≡ size_then total codec hash rest
hash_answer total codec Sha256 rest = refl
hash_answer total codec Identity rest = refl

digest_answer : (total : ℕ) (codec : Codec) (hash : HashKind) (digest : List ℕ) → IsDigestSize hash (length digest)
    → by_size total codec hash (length digest) digest ≡ Ok (record { version = 1; codec = codec; hash = hash; digest = digest })
digest_answer total codec hash digest is =
    let size = length digest in
    let cid : CidParts = record { version = 1; codec = codec; hash = hash; digest = digest } in
    let same : nat_lt size size ≡ false = le-ltb size size (omega arith) in
    cond-true (is_digest_size hash size) (digest_then total codec hash size digest) (Err (faults.BadLength size)) ((size_decides hash size).1 is)
    ∙ cond-false (nat_lt size size) (Err (faults.Short total)) (if nat_lt size size then Err (faults.Trailing (total - (size - size))) else Ok cid) same
    ∙ cond-false (nat_lt size size) (Err (faults.Trailing (total - (size - size)))) (Ok cid) same

parts_again : (cid : CidParts) → cid.version ≡ 1 → ◌≡◌ {A = CidAnswer} (Ok (record { version = 1; codec = cid.codec; hash = cid.hash; digest = cid.digest })) (Ok cid)
parts_again cid e = ap (λ (v : ℕ). Ok (record { version = v; codec = cid.codec; hash = cid.hash; digest = cid.digest })) (sym e)

version_answer : SpellingLaws → (cid : CidParts) (total : ℕ) (bytes : List ℕ) → AreBytes bytes → CidV1Bytes cid bytes → version_then total bytes ≡ Ok cid
version_answer laws cid total bytes are h =
    let v = h.numbers in
    let w = v.4 in
    let x = w.4 in
    let y = x.4 in
    let first : bytes ≡ v.0 ++ (v.1 ++ cid.digest) = h.whole ∙ behind_parts v.0 v.1 cid.digest h.head v.2 in
    let second = behind_parts w.0 w.1 cid.digest v.1 w.2 in
    let third = behind_parts x.0 x.1 cid.digest w.1 x.2 in
    let fourth : x.1 ++ cid.digest ≡ y.0 ++ cid.digest =
    behind_parts y.0 y.1 cid.digest x.1 y.2 ∙ ap (λ (l : List ℕ). y.0 ++ (l ++ cid.digest)) y.4 in
    let first_are = rest_bytes v.0 (v.1 ++ cid.digest) (subst AreBytes first are) in
    let second_are = rest_bytes w.0 (w.1 ++ cid.digest) (subst AreBytes second first_are) in
    let third_are = rest_bytes x.0 (x.1 ++ cid.digest) (subst AreBytes third second_are) in
    number_answer laws total (by_version total) 1 v.0 (v.1 ++ cid.digest) bytes are first v.3
    ∙ number_answer laws total (by_codec total) (codec_code cid.codec) w.0 (w.1 ++ cid.digest) (v.1 ++ cid.digest) first_are second w.3
    ∙ codec_answer total cid.codec (w.1 ++ cid.digest)
    ∙ number_answer laws total (by_hash total cid.codec) (hash_code cid.hash) x.0 (x.1 ++ cid.digest) (w.1 ++ cid.digest) second_are third x.3
    ∙ hash_answer total cid.codec cid.hash (x.1 ++ cid.digest)
    ∙ number_answer laws total (by_size total cid.codec cid.hash) (length cid.digest) y.0 cid.digest (x.1 ++ cid.digest) third_are fourth y.3
    ∙ digest_answer total cid.codec cid.hash cid.digest h.size
    ∙ parts_again cid h.version

-- the first byte of a CIDv1 is 1
first_one : SpellingLaws → (cid : CidParts) (bytes : List ℕ) → CidV1Bytes cid bytes → (rest : List ℕ) × (bytes ≡ 1 ∷ rest)
first_one laws cid bytes h =
    let v = h.numbers in
    let one : v.0 ≡ 1 ∷ [] = laws.one_spelling 1 v.0 (1 ∷ []) v.3 (laws.one_byte 1 (omega arith)) in
    (v.1 ++ cid.digest, h.whole ∙ (behind_parts v.0 v.1 cid.digest h.head v.2 ∙ ap (λ (l : List ℕ). l ++ (v.1 ++ cid.digest)) one))

begins_one : (bytes rest : List ℕ) → bytes ≡ 1 ∷ rest → begins_with 0x12 bytes ≡ false
begins_one bytes rest e = ap (begins_with 0x12) e

bytes_found : SpellingLaws → (cid : CidParts) (bytes : List ℕ) → AreBytes bytes → CidV1Bytes cid bytes → bytes_answer bytes ≡ Ok cid
bytes_found laws cid bytes are h =
    let one = first_one laws cid bytes h in
    cond-false (begins_with 0x12 bytes) (Err (faults.BadVersion 18)) (version_then (length bytes) bytes) (begins_one bytes one.0 one.1)
    ∙ version_answer laws cid (length bytes) bytes are h

answer_of_letters : (letters : List ℕ) → cid_answer (98 ∷ letters) ≡ text_answer (bytes_of_letters letters)
unfolding cid_answer
answer_of_letters letters = refl

pub answer_found : SpellingLaws → TextLaws → (cid : CidParts) (text : List ℕ) → CidText cid text → cid_answer text ≡ Ok cid
answer_found laws texts cid text h =
    let base = h.in_base in
    ap cid_answer base.begins ∙ answer_of_letters base.letters ∙ ap text_answer (letters_found texts base.letters h.bytes base.rest)
    ∙ bytes_found laws cid h.bytes base.rest.are_bytes h.in_bytes

pub answer_law : SpellingLaws → TextLaws → (cid : CidParts) (text : List ℕ) → (cid_answer text ≡ Ok cid) ↔ CidText cid text
answer_law laws texts cid text = (λ e. subst (IsOfText text) e (answer_told laws texts text), answer_found laws texts cid text)

-- ---- what `from_text` answers

pub from_text_is : SpellingLaws → TextLaws → (text : List ℕ) (r : CidAnswer)
    → ((cid : CidParts) → CidText cid text → MatchResult r (λ found. found ≡ cid) (λ e. e ≡ faults.OutOfMemory))
    → ((fault : CidFault) → HasTextCause text fault → (r ≡ Err fault) ⊎ (r ≡ Err faults.OutOfMemory))
    → (r ≡ cid_answer text) ⊎ (r ≡ Err faults.OutOfMemory)
from_text_is laws texts text r only given = by_answer (cid_answer text) (answer_told laws texts text)
  where
    by_result : (r : CidAnswer) (cid : CidParts) → MatchResult r (λ found. found ≡ cid) (λ e. e ≡ faults.OutOfMemory)
        → (r ≡ Ok cid) ⊎ (r ≡ Err faults.OutOfMemory)
    by_result (Ok found) cid h = inl (ap (λ (c : CidParts). Ok c) h)
    by_result (Err e) cid h = inr (ap (λ (f : CidFault). Err f) h)

    by_answer : (a : CidAnswer) → IsOfText text a → (r ≡ a) ⊎ (r ≡ Err faults.OutOfMemory)
    by_answer (Ok cid) h = by_result r cid (only cid h)
    by_answer (Err fault) h = given fault h

pub root_given : (text : List ℕ) (r : CidAnswer) → (r ≡ cid_answer text) ⊎ (r ≡ Err faults.OutOfMemory) → Gives (root_of text) (with_query_fault r)
root_given text r (inl e) = inl (ap with_query_fault e)
root_given text r (inr e) = inr (ap with_query_fault e)
