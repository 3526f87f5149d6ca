-- The text of an audit's summary in its parts, and the raw CID of a digest.
use Rattle.std.proofs.Common.{All, List, None, Some, [], ap, append-nil, append_assoc, arith, codes, decimal, drop, get_or, length, lit<, replicate, subst, suc, sym, take, ℕ, ◌+◌, ◌++◌, ◌<◌, ◌∙◌, ◌∷◌, ◌≡◌}
use Rattle.std.proofs.lemmas.List.{length-take, take_more}
use Rattle.std.proofs.lemmas.List.Elements.{All-cons}
use Rattle.std.specs.Prelude.{if◌then◌else◌, ◌==◌, ◌↔◌}
use Rattle.tg_audit_texts.specs.Expected.{raw_cid_of}
use Rattle.tg_audit_texts.specs.Summary.{files_line, hashed_line, hashed_lines, root_line}
use Rattle.tg_audit_texts.specs.declared.hashing.Hashed.{Hashed}
use Rattle.tg_bytes.specs.Ascii.{line_feed, space}
use Rattle.tg_cid.specs.Cid.{CidParts}
use Rattle.tg_cid.specs.Computed.{cid_of, cid_text}
use Rattle.tg_cid.specs.Spelling.{CidBytes}
use Rattle.tg_import.specs.declared.summary.Summary.{Summary}

-- ---- lines

lines_push : (n : ℕ) (hs : List Hashed) (h : Hashed) → hashed_lines n (hs ++ h ∷ []) ≡ hashed_lines n hs ++ hashed_line (n + length hs) h
lines_push n [] h = let e : n ≡ n + 0 = omega arith in append-nil (hashed_line n h) ∙ ap (λ (k : ℕ). hashed_line k h) e
lines_push n (x ∷ hs) h =
    let e : (n + 1) + length hs ≡ n + suc (length hs) = omega arith in
    ap (λ (l : List ℕ). hashed_line n x ++ l) (lines_push (n + 1) hs h ∙ ap (λ (k : ℕ). hashed_lines (n + 1) hs ++ hashed_line k h) e)
    ∙ sym (append_assoc (hashed_line n x) (hashed_lines (n + 1) hs) (hashed_line (n + suc (length hs)) h))

pub lines_more : (hs : List Hashed) (i : ℕ) (d : Hashed) (front text : List ℕ) → i < length hs → text ≡ front ++ hashed_lines 1 (take i hs)
    → text ++ hashed_line (i + 1) (get_or hs i d) ≡ front ++ hashed_lines 1 (take (i + 1) hs)
lines_more hs i d front text inside same =
    let count : i + 1 ≡ 1 + length (take i hs) = omega (arith, length-take i hs) in
    let h : Hashed = get_or hs i d in
    ap (λ (l : List ℕ). l ++ hashed_line (i + 1) h) same
    ∙ append_assoc front (hashed_lines 1 (take i hs)) (hashed_line (i + 1) h)
    ∙ ap (λ (k : ℕ). front ++ (hashed_lines 1 (take i hs) ++ hashed_line k h)) count
    ∙ ap (λ (l : List ℕ). front ++ l) (sym (lines_push 1 (take i hs) h))
    ∙ ap (λ (l : List Hashed). front ++ hashed_lines 1 l) (sym (take_more hs i d inside))

head_joined : (r c f n b m : List ℕ)
    → ((((([] ++ r) ++ c) ++ (line_feed ∷ f ++ n)) ++ (b ++ m)) ++ line_feed ∷ [])
    ≡ (r ++ (c ++ line_feed ∷ [])) ++ (f ++ (n ++ (b ++ (m ++ line_feed ∷ []))))
head_joined r c f n b m = simp append_assoc

-- the root's line and that of the files
pub head_text : (root : CidParts) (summary : Summary)
    → ((((([] ++ codes "root ") ++ cid_text root) ++ (codes "\nfiles " ++ decimal summary.files))
    ++ (codes " bytes " ++ decimal summary.bytes)) ++ line_feed ∷ [])
    ≡ root_line root ++ files_line summary
head_text root summary = head_joined (codes "root ") (cid_text root) (codes "files ") (decimal summary.files) (codes " bytes ") (decimal summary.bytes)

pub head_from : (root : CidParts) (summary : Summary) (t u v w x y shown : List ℕ) → t ≡ [] → u ≡ t ++ codes "root " → v ≡ u ++ shown → shown ≡ cid_text root
    → w ≡ v ++ (codes "\nfiles " ++ decimal summary.files) → x ≡ w ++ (codes " bytes " ++ decimal summary.bytes) → y ≡ x ++ line_feed ∷ []
    → y ≡ (root_line root ++ files_line summary) ++ []
head_from root summary t u v w x y shown e f g is h k l =
    l ∙ ap (λ (a : List ℕ). a ++ line_feed ∷ []) (k ∙ ap (λ (a : List ℕ). a ++ (codes " bytes " ++ decimal summary.bytes))
    (h ∙ ap (λ (a : List ℕ). a ++ (codes "\nfiles " ++ decimal summary.files))
    (g ∙ ap (λ (a : List ℕ). a ++ shown) (f ∙ ap (λ (a : List ℕ). a ++ codes "root ") e)
    ∙ ap (λ (a : List ℕ). ([] ++ codes "root ") ++ a) is)))
    ∙ head_text root summary ∙ sym (append-nil (root_line root ++ files_line summary))

pub ends_text : (a b c d : List ℕ) → ((a ++ b) ++ c) ++ d ≡ a ++ (b ++ (c ++ d))
ends_text a b c d = simp append_assoc

-- the line of an answer
line_text : (text label number size cid : List ℕ)
    → ((((text ++ (label ++ number)) ++ space ∷ size) ++ space ∷ []) ++ cid) ++ line_feed ∷ []
    ≡ text ++ (label ++ (number ++ space ∷ (size ++ space ∷ (cid ++ line_feed ∷ []))))
line_text text label number size cid = simp append_assoc

pub line_from : (text a b c d e label number size cid shown : List ℕ) → a ≡ text ++ (label ++ number) → b ≡ a ++ space ∷ size → c ≡ b ++ space ∷ []
    → d ≡ c ++ shown → shown ≡ cid → e ≡ d ++ line_feed ∷ []
    → e ≡ text ++ (label ++ (number ++ space ∷ (size ++ space ∷ (cid ++ line_feed ∷ []))))
line_from text a b c d e label number size cid shown p q r s is t =
    t ∙ ap (λ (l : List ℕ). l ++ line_feed ∷ []) (s ∙ ap (λ (l : List ℕ). l ++ shown)
    (r ∙ ap (λ (l : List ℕ). l ++ space ∷ []) (q ∙ ap (λ (l : List ℕ). l ++ space ∷ size) p))
    ∙ ap (λ (l : List ℕ). (((text ++ (label ++ number)) ++ space ∷ size) ++ space ∷ []) ++ l) is)
    ∙ line_text text label number size cid

-- ---- the raw CID of a digest

raw_computed : (digest : List ℕ) → length digest ≡ 32 → cid_of (1 ∷ 85 ∷ 18 ∷ 32 ∷ digest) ≡ Some (raw_cid_of digest)
unfolding cid_of
raw_computed digest size = ap (λ (n : ℕ). if n == 32 then Some (raw_cid_of digest) else None) size

abbrev IsByte : ℕ → Type 0
IsByte b = b < 256

pub raw_bytes : (digest : List ℕ) → length digest ≡ 32 → All (λ b. b < 256) digest
    → ((cid : CidParts) (bytes : List ℕ) → All (λ b. b < 256) bytes → CidBytes cid bytes ↔ (cid_of bytes ≡ Some cid))
    → CidBytes (raw_cid_of digest) (1 ∷ 85 ∷ 18 ∷ 32 ∷ digest)
raw_bytes digest size are computes =
    let all : All IsByte (1 ∷ 85 ∷ 18 ∷ 32 ∷ digest) = All-cons IsByte 1 (85 ∷ 18 ∷ 32 ∷ digest) (lit< tt)
    (All-cons IsByte 85 (18 ∷ 32 ∷ digest) (lit< tt) (All-cons IsByte 18 (32 ∷ digest) (lit< tt) (All-cons IsByte 32 digest (lit< tt) are))) in
    (computes (raw_cid_of digest) (1 ∷ 85 ∷ 18 ∷ 32 ∷ digest) all).1 (raw_computed digest size)

-- what stands in the room: the four bytes before a digest, and the digest
pub raw_room : (digest : List ℕ) → length digest ≡ 32
    → (1 ∷ 85 ∷ 18 ∷ 32 ∷ []) ++ (digest ++ drop (4 + length digest) (replicate {A = ℕ} 36 0)) ≡ 1 ∷ 85 ∷ 18 ∷ 32 ∷ digest
raw_room digest size =
    ap (λ (n : ℕ). 1 ∷ 85 ∷ 18 ∷ 32 ∷ (digest ++ drop (4 + n) (replicate {A = ℕ} 36 0))) size
    ∙ ap (λ (l : List ℕ). 1 ∷ 85 ∷ 18 ∷ 32 ∷ l) (append-nil digest)

pub raw_spelled : (digest room : List ℕ) → length digest ≡ 32 → All (λ b. b < 256) digest
    → ((cid : CidParts) (bytes : List ℕ) → All (λ b. b < 256) bytes → CidBytes cid bytes ↔ (cid_of bytes ≡ Some cid))
    → room ≡ (1 ∷ 85 ∷ 18 ∷ 32 ∷ []) ++ (digest ++ drop (4 + length digest) (replicate {A = ℕ} 36 0)) → CidBytes (raw_cid_of digest) room
raw_spelled digest room size are computes is =
    subst (λ (bytes : List ℕ). CidBytes (raw_cid_of digest) bytes) (sym (is ∙ raw_room digest size)) (raw_bytes digest size are computes)
