-- Cursors between the links of a text.
use Rattle.std.proofs.Common.{◌≡◌, ℕ, List, [], ◌∷◌, ◌++◌, refl, sym, ap, ◌∙◌, subst, arith}
use Rattle.std.specs.Prelude.{slice_range}
use Rattle.std.proofs.lemmas.List.{append-nil}
use Rattle.tg_pbtable.specs.declared.table.Field.{Field}
use Rattle.tg_pbtable.specs.declared.table.Order.TheVariants.{Runs}
use Rattle.tg_pbtable.specs.Cursor.{IsNextField}
use Rattle.tg_pbtable.specs.Values.{bytes_at}
use Rattle.tg_pbtable.specs.Laws.{TableLaws}
use Rattle.tg_dagpb.specs.declared.TheConstants.{NODE}
use Rattle.tg_dagpb.specs.declared.Link.{Link}
use Rattle.tg_dagpb.specs.declared.Node.{Node}
use Rattle.tg_dagpb.specs.Node.{LinkText, LinkTexts, NodeText}
use Rattle.tg_dagpb.specs.Cursor.{IsBetween}
use Rattle.tg_dagpb.specs.Reading.{placed}
use Rattle.tg_dagpb.proofs.Same.{one_link}
use Rattle.tg_dagpb.proofs.Gathering.{texts_append}

-- at the front all links of a node are to come
pub start_between : (text : List ℕ) (node : Node) → NodeText node text → IsBetween text 0 [] node.links
start_between text node p = record {
  front = [];
  rest = p.fields;
  fields = record { message = p.message; inside = omega arith; spelled = refl };
  links_behind = tt;
  links_ahead = p.parts.links;
}

-- ---- at the end of the text no link is to come

no_links : (links : List Link) → LinkTexts links [] → links ≡ []
no_links [] h = refl
no_links (a ∷ links) h = absurd h

pub between_end : (text : List ℕ) (at : ℕ) (behind ahead : List Link) (b : IsBetween text at behind ahead) → b.rest ≡ [] → ahead ≡ []
between_end text at behind ahead b none = no_links ahead (subst (λ (fs : List Field). LinkTexts ahead (bytes_at text 2 fs)) none b.links_ahead)

-- ---- before it the next field is behind

abbrev pub IsNext : (text : List ℕ) (at : ℕ) (behind ahead : List Link) → IsBetween text at behind ahead → Field → ℕ → Type 0
IsNext text at behind ahead b f next = IsNextField NODE.now Runs text b.front b.rest f next

-- a field that is no link is passed
pub between_past : (laws : TableLaws) → (text : List ℕ) (at : ℕ) (behind ahead : List Link) (f : Field) (next : ℕ) → bytes_at text 2 (f ∷ []) ≡ []
    → (b : IsBetween text at behind ahead) → IsNext text at behind ahead b f next → IsBetween text next behind ahead
between_past laws text at behind ahead f next none b g =
    let back : bytes_at text 2 b.front ≡ bytes_at text 2 (b.front ++ f ∷ []) =
    sym (laws.values.bytes_append text 2 b.front (f ∷ []) ∙ ap (λ (t : List (List ℕ)). bytes_at text 2 b.front ++ t) none ∙ append-nil (bytes_at text 2 b.front)) in
    let forth : bytes_at text 2 b.rest ≡ bytes_at text 2 g.more =
    ap (bytes_at text 2) g.ahead_is ∙ laws.values.bytes_append text 2 (f ∷ []) g.more ∙ ap (λ (t : List (List ℕ)). t ++ bytes_at text 2 g.more) none in
    record {
      front = b.front ++ f ∷ [];
      rest = g.more;
      fields = g.between;
      links_behind = subst (λ (t : List (List ℕ)). LinkTexts behind t) back b.links_behind;
      links_ahead = subst (λ (t : List (List ℕ)). LinkTexts ahead t) forth b.links_ahead;
    }

-- the first of the links that are to come
record HasHead (links : List Link) (text : List ℕ) (texts : List (List ℕ)) : Type 0 where
  link : Link
  more : List Link
  links_are : links ≡ link ∷ more
  is_text : LinkText link text
  rest : LinkTexts more texts

head_of : (links : List Link) (text : List ℕ) (texts : List (List ℕ)) → LinkTexts links (text ∷ texts) → HasHead links text texts
head_of [] text texts h = absurd h
head_of (a ∷ links) text texts h = record { link = a; more = links; links_are = refl; is_text = h.0; rest = h.1 }

linked : (text : List ℕ) (at : ℕ) (behind ahead : List Link) (f : Field) (next start end : ℕ) → f ≡ placed start end → (b : IsBetween text at behind ahead) (g : IsNext text at behind ahead b f next)
    → HasHead ahead (slice_range text start end) (bytes_at text 2 g.more)
linked text at behind ahead f next start end e b g =
    head_of ahead (slice_range text start end) (bytes_at text 2 g.more)
    (subst (λ (fs : List Field). LinkTexts ahead (bytes_at text 2 fs)) (g.ahead_is ∙ ap (λ (x : Field). x ∷ g.more) e) b.links_ahead)

-- the bytes of the field are the text of a link
pub between_text : (text : List ℕ) (at : ℕ) (behind ahead : List Link) (f : Field) (next start end : ℕ) → f ≡ placed start end
    → (b : IsBetween text at behind ahead) → IsNext text at behind ahead b f next → (link : Link) × LinkText link (slice_range text start end)
between_text text at behind ahead f next start end e b g = let h = linked text at behind ahead f next start end e b g in (h.link, h.is_text)

pub record HasPassed (text : List ℕ) (next : ℕ) (behind ahead : List Link) (link : Link) : Type 0 where
  pub more : List Link
  pub ahead_is : ahead ≡ link ∷ more
  pub between : IsBetween text next (behind ++ link ∷ []) more

-- and behind it one link more is behind
pub between_link : (laws : TableLaws) → (text : List ℕ) (at : ℕ) (behind ahead : List Link) (f : Field) (next start end : ℕ) (link : Link) → f ≡ placed start end
    → LinkText link (slice_range text start end) → (b : IsBetween text at behind ahead) → IsNext text at behind ahead b f next → HasPassed text next behind ahead link
between_link laws text at behind ahead f next start end link e is b g =
    let h = linked text at behind ahead f next start end e b g in
    let same : h.link ≡ link = one_link laws (slice_range text start end) h.link link h.is_text is in
    let back : bytes_at text 2 b.front ++ (slice_range text start end ∷ []) ≡ bytes_at text 2 (b.front ++ f ∷ []) =
    sym (laws.values.bytes_append text 2 b.front (f ∷ []) ∙ ap (λ (x : Field). bytes_at text 2 b.front ++ bytes_at text 2 (x ∷ [])) e) in
    record {
      more = h.more;
      ahead_is = h.links_are ∙ ap (λ (x : Link). x ∷ h.more) same;
      between = record {
        front = b.front ++ f ∷ [];
        rest = g.more;
        fields = g.between;
        links_behind = subst (λ (t : List (List ℕ)). LinkTexts (behind ++ link ∷ []) t) back (texts_append behind (link ∷ []) (bytes_at text 2 b.front) (slice_range text start end ∷ []) b.links_behind (is, tt));
        links_ahead = h.rest;
      };
    }
