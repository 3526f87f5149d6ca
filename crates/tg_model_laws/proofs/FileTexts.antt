-- The text of a file's traversal: its content, or a range of it.
use Rattle.std.proofs.Common.{◌≡◌, ℕ, ◌+◌, ◌-◌, ◌++◌, Bool, true, false, if◌then◌else◌, List, [], ◌∷◌, Some, None, length, map, refl, sym, ap, ap₂, ◌∙◌, inr, arith}
use Rattle.std.proofs.lemmas.List.{append-nil}
use Rattle.tg_model.specs.Content.{content_at, content_of_children}
use Rattle.tg_model.specs.Dag.{Dag, Children, Section, bare, with_child, no_child, node}
use Rattle.tg_model.specs.PathWalk.{whole}
use Rattle.tg_model.specs.Sound.{AreCheckedAt, IsCheckedAt, IsFileKind, Position, part}
use Rattle.tg_model.specs.Traversal.{Visit, between, entire, is_met, part_visits, passed_over, ranged, traverse, traverse_children, visited}
use Rattle.tg_model.specs.declared.kinds.Kind.{Kind}
use Rattle.tg_model.specs.declared.kinds.Kind.TheVariants.{File, Raw}
use Rattle.tg_model.specs.declared.kinds.Part.{Part}
use Rattle.tg_model_laws.proofs.ContentSizes.{AreReadOn, IsReadOn, part-size}
use Rattle.tg_model_laws.proofs.Slices.{between-append, between-none, between-unmet}
use Rattle.tg_model_laws.proofs.Through.{child-through, node-through}

-- what is done at a part of which all is asked for
abbrev pub whole_part : Part → Visit
whole_part p = record { met = []; into = Some (entire, part p.size) }

-- ---- all of a file

-- the text of a raw block or a file is its content, if that of its parts is
pub file-entire : (position : Position) (depth : ℕ) (section : Section) (kind : Kind) (children : Children) → IsFileKind kind
    → ((parts : List Part) → (traverse_children (map whole_part parts) (depth + 1) children).end ≡ whole
    → (traverse_children (map whole_part parts) (depth + 1) children).text ≡ content_of_children (map (λ p. part p.size) parts) children)
    → (traverse entire position depth (node section kind children)).end ≡ whole → (traverse entire position depth (node section kind children)).text ≡ content_at position (node section kind children)
file-entire position depth section Raw children f below w =
    let through = node-through entire position depth section Raw children w in
    through.text ∙ ap (λ (text : List ℕ). section.block ++ text) (append-nil _ ∙ below [] through.children_end)
file-entire position depth section (File inline filesize parts) children f below w =
    let through = node-through entire position depth section (File inline filesize parts) children w in
    through.text ∙ ap (λ (text : List ℕ). inline ++ text) (append-nil _ ∙ below parts through.children_end)
file-entire position depth section _ children f below w = absurd f

mutual
  -- the text of a part is its content
  pub part-entire : (size depth : ℕ) (d : Dag) → (traverse entire (part size) depth d).end ≡ whole → (traverse entire (part size) depth d).text ≡ content_at (part size) d
  part-entire size depth (node section Raw children) w = file-entire (part size) depth section Raw children tt (λ parts. parts-entire parts (depth + 1) children) w
  part-entire size depth (node section (File inline filesize parts) children) w =
      file-entire (part size) depth section (File inline filesize parts) children tt (λ parts. parts-entire parts (depth + 1) children) w
  part-entire size depth (bare section None) w = absurd (cc w)
  part-entire size depth _ w = absurd (cc w)

  -- the text of the parts is their content
  pub parts-entire : (parts : List Part) (depth : ℕ) (children : Children) → (traverse_children (map whole_part parts) depth children).end ≡ whole
      → (traverse_children (map whole_part parts) depth children).text ≡ content_of_children (map (λ p. part p.size) parts) children
  parts-entire parts depth no_child w = refl
  parts-entire [] depth (with_child d children) w = refl
  parts-entire (p ∷ parts) depth (with_child d children) w =
      let through = child-through (whole_part p) _ depth d children w in
      through.text ∙ ap₂ (λ s t. s ++ t) (part-entire p.size depth d through.first) (parts-entire parts depth children through.rest)

-- ---- a range of a file

-- the range of a raw block or a file, by that of its parts, which is counted from the end of its own bytes
pub file-ranged : (low high : ℕ) (position : Position) (depth : ℕ) (section : Section) (kind : Kind) (children : Children) → IsFileKind kind → IsCheckedAt position (node section kind children)
    → ((from : ℕ) (parts : List Part) → AreCheckedAt (map (λ p. part p.size) parts) children → (traverse_children (part_visits low high from parts) (depth + 1) children).end ≡ whole
    → (traverse_children (part_visits low high from parts) (depth + 1) children).text ≡ between (low - from) (high - from) (content_of_children (map (λ p. part p.size) parts) children))
    → (traverse (ranged low high) position depth (node section kind children)).end ≡ whole
    → (traverse (ranged low high) position depth (node section kind children)).text ≡ between low high (content_at position (node section kind children))
file-ranged low high position depth section Raw children f c below w =
    let through = node-through (ranged low high) position depth section Raw children w in
    through.text
    ∙ ap (λ (text : List ℕ). between low high section.block ++ text) (append-nil _ ∙ below (length section.block) [] c.1 through.children_end)
    ∙ sym (between-append low high section.block (content_of_children [] children))
file-ranged low high position depth section (File inline filesize parts) children f c below w =
    let through = node-through (ranged low high) position depth section (File inline filesize parts) children w in
    through.text
    ∙ ap (λ (text : List ℕ). between low high inline ++ text) (append-nil _ ∙ below (length inline) parts c.1 through.children_end)
    ∙ sym (between-append low high inline (content_of_children (map (λ p. part p.size) parts) children))
file-ranged low high position depth section _ children f c below w = absurd f

-- what is done at a part of which a range is asked for
abbrev pub ranged_part : Bool → ℕ → ℕ → ℕ → Visit
ranged_part met low high size = if met then record { met = []; into = Some (ranged low high, part size) } else passed_over

-- a part that is met gives its range, and one that isn't has none
met-or-not : (met : Bool) (low high from size depth : ℕ) (d : Dag) → is_met low high from size ≡ met → length (content_at (part size) d) ≡ size
    → ((traverse (ranged (low - from) (high - from)) (part size) depth d).end ≡ whole
    → (traverse (ranged (low - from) (high - from)) (part size) depth d).text ≡ between (low - from) (high - from) (content_at (part size) d))
    → (visited (λ reach position. traverse reach position depth d) (ranged_part met (low - from) (high - from) size).into).end ≡ whole
    → (visited (λ reach position. traverse reach position depth d) (ranged_part met (low - from) (high - from) size).into).text ≡ between (low - from) (high - from) (content_at (part size) d)
met-or-not true low high from size depth d m l below w = below w
met-or-not false low high from size depth d m l below w = sym (between-unmet low high from size (content_at (part size) d) m l)

-- a range counted from behind a part
behind-part : (low high from size : ℕ) (bytes rest : List ℕ) → length bytes ≡ size
    → between (low - (from + size)) (high - (from + size)) rest ≡ between (low - from - length bytes) (high - from - length bytes) rest
behind-part low high from size bytes rest l =
    let lows : low - (from + size) ≡ low - from - length bytes = omega arith in
    let highs : high - (from + size) ≡ high - from - length bytes = omega arith in
    ap₂ (λ (m : ℕ) (n : ℕ). between m n rest) lows highs

mutual
  -- the range of a part
  pub part-ranged : (low high size depth : ℕ) (d : Dag) → IsReadOn d → IsCheckedAt (part size) d → (traverse (ranged low high) (part size) depth d).end ≡ whole
      → (traverse (ranged low high) (part size) depth d).text ≡ between low high (content_at (part size) d)
  part-ranged low high size depth (bare section fault) n checked w = absurd n
  part-ranged low high size depth (node section Raw children) n checked w =
      file-ranged low high (part size) depth section Raw children tt checked (λ from parts c. parts-ranged low high from parts (depth + 1) children n c) w
  part-ranged low high size depth (node section (File inline filesize parts) children) n checked w =
      file-ranged low high (part size) depth section (File inline filesize parts) children tt checked (λ from parts c. parts-ranged low high from parts (depth + 1) children n c) w
  part-ranged low high size depth _ n checked w = absurd (cc w)

  -- the range of the parts from `from` on
  pub parts-ranged : (low high from : ℕ) (parts : List Part) (depth : ℕ) (children : Children) → AreReadOn children → AreCheckedAt (map (λ p. part p.size) parts) children
      → (traverse_children (part_visits low high from parts) depth children).end ≡ whole
      → (traverse_children (part_visits low high from parts) depth children).text ≡ between (low - from) (high - from) (content_of_children (map (λ p. part p.size) parts) children)
  parts-ranged low high from parts depth no_child n checked w = sym (between-none (low - from) (high - from) [] (inr (omega arith)))
  parts-ranged low high from [] depth (with_child d children) n checked w = absurd checked
  parts-ranged low high from (p ∷ parts) depth (with_child d children) n checked w =
      let size : length (content_at (part p.size) d) ≡ p.size = part-size p.size d n.0 checked.0 in
      let through = child-through (ranged_part (is_met low high from p.size) (low - from) (high - from) p.size) _ depth d children w in
      through.text
      ∙ ap₂ (λ s t. s ++ t)
      (met-or-not (is_met low high from p.size) low high from p.size depth d refl size (part-ranged (low - from) (high - from) p.size depth d n.0 checked.0) through.first)
      (parts-ranged low high (from + p.size) parts depth children n.1 checked.1 through.rest
      ∙ behind-part low high from p.size (content_at (part p.size) d) (content_of_children (map (λ p. part p.size) parts) children) size)
      ∙ sym (between-append (low - from) (high - from) (content_at (part p.size) d) (content_of_children (map (λ p. part p.size) parts) children))
