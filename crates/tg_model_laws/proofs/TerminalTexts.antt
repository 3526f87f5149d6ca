-- The text of a traversal that leads to a terminal is what the terminal says by scope and range.
use Rattle.std.proofs.Common.{◌≡◌, ℕ, ◌+◌, ◌++◌, false, List, [], ◌∷◌, Option, Some, None, length, refl, sym, ap, ◌∙◌}
use Rattle.std.proofs.lemmas.List.{append-nil}
use Rattle.tg_model.specs.Answer.{content_text, is_listed, node_text}
use Rattle.tg_model.specs.ByteRanges.{high_of, low_of, slice_of}
use Rattle.tg_model.specs.Content.{content}
use Rattle.tg_model.specs.Dag.{Dag, Children, Section, bare, node, total_of, unopened}
use Rattle.tg_model.specs.PathWalk.{PathEnd, path_walk, terminal, whole}
use Rattle.tg_model.specs.Queries.{QueryParts, SpanParts}
use Rattle.tg_model.specs.Sound.{IsChecked, IsFileKind, IsSound, top}
use Rattle.tg_model.specs.Traversal.{Traversal, at_terminal, between, entire, file_reach, from_end, traversal, traverse}
use Rattle.tg_model.specs.declared.kinds.Kind.{Kind}
use Rattle.tg_model.specs.declared.kinds.Kind.TheVariants.{File, Raw, Symlink}
use Rattle.tg_model.specs.declared.queries.Scope.{Scope}
use Rattle.tg_model.specs.declared.queries.Scope.TheVariants as scopes
use Rattle.tg_model_laws.proofs.BundleTexts.{top-bundled}
use Rattle.tg_model_laws.proofs.ContentSizes.{AreReadOn, IsReadOn, file-size, whole_read}
use Rattle.tg_model_laws.proofs.FileTexts.{file-entire, file-ranged, parts-entire, parts-ranged}
use Rattle.tg_model_laws.proofs.Through.{NodeThrough, no-visits, node-through}
use Rattle.tg_model_laws.proofs.Terminals.{terminal_sound, traversal_whole}

-- the target of a symbolic link
link-target : (depth : ℕ) (section : Section) (target : List ℕ) (children : Children) → (traverse entire top depth (node section (Symlink target) children)).end ≡ whole
    → (traverse entire top depth (node section (Symlink target) children)).text ≡ target
link-target depth section target children w =
    let through : NodeThrough entire top depth section (Symlink target) children = node-through entire top depth section (Symlink target) children w in
    through.text ∙ ap (λ (text : List ℕ). target ++ (text ++ [])) (no-visits (depth + 1) children) ∙ append-nil target

-- the range by the declared size is the slice
same-range : (span : SpanParts) (bytes : List ℕ) (total : ℕ) → length bytes ≡ total → between (low_of span.from total) (high_of span.to total) bytes ≡ slice_of bytes span
same-range span bytes total e = ap (λ (n : ℕ). between (low_of span.from n) (high_of span.to n) bytes) (sym e)

-- what a raw block or a file says: its content, or the range of it
file-text : (span : Option SpanParts) (depth : ℕ) (section : Section) (kind : Kind) (children : Children) → IsFileKind kind → AreReadOn children → IsChecked (node section kind children)
    → (traverse (file_reach span (total_of section kind)) top depth (node section kind children)).end ≡ whole
    → (traverse (file_reach span (total_of section kind)) top depth (node section kind children)).text ≡ content_text span (content (node section kind children))
file-text None depth section kind children f n c w = file-entire top depth section kind children f (λ parts. parts-entire parts (depth + 1) children) w
file-text (Some span) depth section kind children f n c w =
    let total : ℕ = total_of section kind in
    let low : ℕ = low_of span.from total in
    let high : ℕ = high_of span.to total in
    file-ranged low high top depth section kind children f c (λ from parts checked. parts-ranged low high from parts (depth + 1) children n checked) w
    ∙ same-range span (content (node section kind children)) total (file-size section kind children f n c)

-- what a terminal says: its block; where it isn't a directory, its content, the range of it, or its target; or its content, its
-- target, or its bundle
terminal-text : (scope : Scope) (span : Option SpanParts) (depth : ℕ) (t : Dag) → (scope ≡ scopes.Entity → IsReadOn t) → IsChecked t → (at_terminal scope span depth t).end ≡ whole
    → is_listed scope t ≡ false → (at_terminal scope span depth t).text ≡ node_text scope span t
terminal-text scopes.Block span depth (unopened cid) n c w e = refl
terminal-text scopes.Block span depth (bare section fault) n c w e = refl
terminal-text scopes.Block span depth (node section kind children) n c w e = refl
terminal-text scopes.Entity span depth (unopened cid) n c w e = refl
terminal-text scopes.Entity span depth (bare section fault) n c w e = absurd (n refl)
terminal-text scopes.Entity span depth (node section Raw children) n c w e = file-text span depth section Raw children tt (n refl) c w
terminal-text scopes.Entity span depth (node section (File inline filesize parts) children) n c w e = file-text span depth section (File inline filesize parts) children tt (n refl) c w
terminal-text scopes.Entity span depth (node section (Symlink target) children) n c w e = link-target depth section target children w
terminal-text scopes.Entity span depth (node section kind children) n c w e = absurd (cc e)
terminal-text scopes.All span depth (unopened cid) n c w e = refl
terminal-text scopes.All span depth (bare section None) n c w e = refl
terminal-text scopes.All span depth (bare section (Some fault)) n c w e = refl
terminal-text scopes.All span depth (node section Raw children) n c w e = file-entire top depth section Raw children tt (λ parts. parts-entire parts (depth + 1) children) w
terminal-text scopes.All span depth (node section (File inline filesize parts) children) n c w e = file-entire top depth section (File inline filesize parts) children tt (λ parts. parts-entire parts (depth + 1) children) w
terminal-text scopes.All span depth (node section (Symlink target) children) n c w e = link-target depth section target children w
terminal-text scopes.All span depth (node section kind children) n c w e = top-bundled (47 ∷ []) depth (node section kind children) w

-- where a traversal comes through, and the path leads to a checked terminal, its text is what the terminal says; no block may be
-- told alone below a terminal that is read on
pub partial-text : (q : QueryParts) (s t : Dag) → (q.scope ≡ scopes.Entity → IsReadOn t) → IsChecked t → (path_walk q.path s).end ≡ terminal t → (traversal q s).end ≡ whole
    → is_listed q.scope t ≡ false → (traversal q s).text ≡ node_text q.scope q.span t
partial-text q s t n c e w l =
    let depth : ℕ = length (path_walk q.path s).sections + 1 in
    let same : from_end (path_walk q.path s).end q.scope q.span depth ≡ at_terminal q.scope q.span depth t = ap (λ (end : PathEnd). from_end end q.scope q.span depth) e in
    ap (λ (t : Traversal). t.text) same ∙ terminal-text q.scope q.span depth t n c (sym (ap (λ (t : Traversal). t.end) same) ∙ w) l

-- so it is in a sound DAG
pub traversal-text : (q : QueryParts) (d t : Dag) → IsSound d → (path_walk q.path d).end ≡ terminal t → is_listed q.scope t ≡ false → (traversal q d).text ≡ node_text q.scope q.span t
traversal-text q d t s e l =
    let sound : IsSound t = terminal_sound q.path d t s e in
    partial-text q d t (λ entity. whole_read t sound.whole) sound.checked e (traversal_whole q d t s e) l
