-- One head is at the front of bytes, and one final head.
use Rattle.std.proofs.Common.{◌≡◌, ℕ, List, [], ◌++◌, Option, length, map, refl, sym, ap, subst, ◌∙◌, append_assoc}
use Rattle.std.proofs.lemmas.List.{append_cancel_left}
use Rattle.httparse.specs.Grammar.{ReadsResponse, ResponseHead as ReplyTree, status_code}
use Rattle.httparse.specs.Spans.{name_and_value}
use Rattle.httparse.proofs.GrammarLemmas.{response_unique}
use Rattle.tg_http.specs.Heads.{ReplyStays, TellsReply, TellsReplyParts}
use Rattle.tg_http.specs.OneHead.{one_beginning}
use Rattle.tg_http.specs.declared.framing.Framing.{Framing}
use Rattle.tg_http.specs.declared.reply.ReplyHead.{ReplyHead}
use Rattle.tg_heard.specs.FinalHeads.{BeginsReply, FinalHead, Interims, IsInterim, more, none}
use Rattle.tg_heard.specs.Laws.{OneFinalHead}
use Rattle.tg_heard.proofs.Framings.{one_framing}

-- ---- one head

-- a head of these parts
abbrev made : ℕ → ℕ → Option (List ℕ) → Option (List ℕ) → Framing → ReplyHead
made used status kind coding framing = record { used = used; status = status; kind = kind; coding = coding; framing = framing }

-- of the same parts the same head
made_same : (u v s t : ℕ) (a b c d : Option (List ℕ)) (f g : Framing) → u ≡ v → s ≡ t → a ≡ b → c ≡ d → f ≡ g → made u s a c f ≡ made v t b d g
made_same u v s t a b c d f g eu es ea ec ef = rw (eu, es, ea, ec, ef) refl

-- of a tree one head is told
one_told : (used status : ℕ) (fields : List (List ℕ × List ℕ)) (head other : ReplyHead) → TellsReplyParts used status fields head
    → TellsReplyParts used status fields other → head ≡ other
one_told used status fields head other t u =
    made_same head.used other.used head.status other.status head.kind other.kind head.coding other.coding head.framing other.framing
    (t.used_is ∙ sym u.used_is) (t.status_is ∙ sym u.status_is) (t.kind_is ∙ sym u.kind_is) (t.coding_is ∙ sym u.coding_is)
    (one_framing fields head.framing other.framing t.framing_is u.framing_is)

-- bytes begin with one head of a reply, and one rest follows it
pub one_reply : (bytes rest left : List ℕ) (head other : ReplyHead) → BeginsReply bytes head rest → BeginsReply bytes other left → (head ≡ other) × (rest ≡ left)
one_reply bytes rest left head other h k =
    let text = (one_beginning bytes h.text k.text h.is_reply.count k.is_reply.count h.is_reply.begins k.is_reply.begins).0 in
    let tree = (response_unique k.text h.tree k.tree [] [] (subst (λ (l : List ℕ). ReadsResponse l h.tree []) text h.is_reply.reads) k.is_reply.reads).0 in
    let told : TellsReply k.tree (length k.text) head =
    subst (λ (t : ReplyTree). TellsReply t (length k.text) head) tree (subst (λ (l : List ℕ). TellsReply h.tree (length l) head) text h.told) in (
      one_told (length k.text) (status_code k.tree) (map name_and_value k.tree.fields) head other told k.told,
      append_cancel_left k.text rest left (ap (λ (l : List ℕ). l ++ rest) (sym text) ∙ sym h.whole ∙ k.whole),
    )

-- the same head is interim or not
pub interim_same : (head other : ReplyHead) → head ≡ other → IsInterim head → IsInterim other
interim_same head other e i = subst IsInterim e i

-- behind interim heads that follow one another stands one final head
one_final : (n m : ℕ) (bytes a b rest left : List ℕ) (head other : ReplyHead) → Interims n bytes a → Interims m bytes b → BeginsReply a head rest → BeginsReply b other left
    → (IsInterim head → ⊥) → (IsInterim other → ⊥) → (head ≡ other) × (rest ≡ left)
one_final n m bytes a b rest left head other (none x) (none y) h k f g = one_reply bytes rest left head other h k
one_final n m bytes a b rest left head other (none x) (more j y r z first begins interim below) h k f g =
    absurd (f (interim_same first head (sym (one_reply bytes rest r head first h begins).0) interim))
one_final n m bytes a b rest left head other (more i x r z first begins interim below) (none y) h k f g =
    absurd (g (interim_same first other (sym (one_reply bytes left r other first k begins).0) interim))
one_final n m bytes a b rest left head other (more i x r z first begins interim below) (more j y s w next starts inside under) h k f g =
    let same = (one_reply bytes r s first next begins starts).1 in
    one_final i j s a b rest left head other (subst (λ (l : List ℕ). Interims i l a) same below) under h k f g

-- ---- with more behind it

module _ (stays : ReplyStays) (tail : List ℕ) where
  -- bytes that begin with a head do so with more behind them
  begins_longer : (bytes rest : List ℕ) (head : ReplyHead) → BeginsReply bytes head rest → BeginsReply (bytes ++ tail) head (rest ++ tail)
  begins_longer bytes rest head h = record {
    text = h.text;
    tree = h.tree;
    is_reply = stays.0 bytes tail h.text h.tree h.is_reply;
    told = h.told;
    whole = ap (λ (l : List ℕ). l ++ tail) h.whole ∙ append_assoc h.text rest tail;
  }

  -- so do interim heads
  pub interims_longer : (n : ℕ) (bytes behind : List ℕ) → Interims n bytes behind → Interims n (bytes ++ tail) (behind ++ tail)
  interims_longer n bytes behind (none b) = none (b ++ tail)
  interims_longer n bytes behind (more i b r z head begins interim below) =
      more i (b ++ tail) (r ++ tail) (z ++ tail) head (begins_longer b r head begins) interim (interims_longer i r z below)

-- and a final head
pub final_longer : ReplyStays → (bytes tail rest : List ℕ) (head : ReplyHead) → FinalHead bytes head rest → FinalHead (bytes ++ tail) head (rest ++ tail)
final_longer stays bytes tail rest head f = record {
  count = f.count;
  behind = f.behind ++ tail;
  interims = interims_longer stays tail f.count bytes f.behind f.interims;
  few = f.few;
  begins = begins_longer stays tail f.behind rest head f.begins;
  final = f.final;
}

-- ---- one final head

-- of the same bytes
pub same_final : (bytes rest left : List ℕ) (head other : ReplyHead) → FinalHead bytes head rest → FinalHead bytes other left → (head ≡ other) × (rest ≡ left)
same_final bytes rest left head other f g =
    one_final f.count g.count bytes f.behind g.behind rest left head other f.interims g.interims f.begins g.begins f.final g.final

-- and of longer ones
pub one_final_head : ReplyStays → OneFinalHead
one_final_head stays bytes tail rest behind head other f g =
    let same = same_final (bytes ++ tail) (rest ++ tail) behind head other (final_longer stays bytes tail rest head f) g in
    (same.0, sym same.1)
