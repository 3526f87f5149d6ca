-- The partial DAG that opens what a query asks of its terminal, by scope and range.
use Rattle.std.proofs.Common.{◌≡◌, Option, None, [], ℕ, refl}
use Rattle.tg_model_laws.proofs.ContentSizes.{IsReadOn}
use Rattle.tg_model_laws.specs.PartialDags.{OpenedFrom, alone}
use Rattle.tg_model_laws.proofs.OpenedParts.{Gives, opened, opened_gives}
use Rattle.tg_model.specs.Answer.{is_listed}
use Rattle.tg_model.specs.Dag.{Dag, IsWhole, bare, blocks, node, unopened}
use Rattle.tg_model.specs.Fits.{IsAloneAt}
use Rattle.tg_model.specs.PathWalk.{PathWalk, terminal, walk_from, whole}
use Rattle.tg_model.specs.Queries.{SpanParts}
use Rattle.tg_model.specs.Sound.{Position, top}
use Rattle.tg_model.specs.Traversal.{all_reach, at_terminal, entity_reach, kind_reach}
use Rattle.tg_model.specs.declared.queries.Scope.{Scope}
use Rattle.tg_model.specs.declared.queries.Scope.TheVariants as scopes

-- a node of which only the block is told
abbrev pub told_alone : Dag → Dag
told_alone (unopened cid) = unopened cid
told_alone (bare section fault) = bare section None
told_alone (node section kind children) = bare section None

-- a terminal with what is asked of it by scope and range
abbrev pub opened_terminal : Scope → Option SpanParts → Dag → Dag
opened_terminal scopes.Block span t = told_alone t
opened_terminal scopes.Entity span t = opened (kind_reach (entity_reach span) t) top t
opened_terminal scopes.All span t = opened (kind_reach (λ section kind. all_reach kind) t) top t

-- what it gives of a terminal from which a traversal comes through
pub terminal_gives : (scope : Scope) (span : Option SpanParts) (depth : ℕ) (t : Dag) → IsWhole t → (at_terminal scope span depth t).end ≡ whole
    → (let some : Dag = opened_terminal scope span t in
    Gives (OpenedFrom some t) (scope ≡ scopes.Entity → IsReadOn some) (at_terminal scope span depth some) (at_terminal scope span depth t) (blocks some))
terminal_gives scope span depth (unopened cid) w through = absurd w
terminal_gives scope span depth (bare section fault) w through = absurd w
terminal_gives scopes.Block span depth (node section kind children) w through = record { from = alone section kind children; read = λ e. absurd (cc); same = refl; sent = refl }
terminal_gives scopes.Entity span depth (node section kind children) w through =
    let all = opened_gives (entity_reach span section kind) top depth (node section kind children) through in
    record { from = all.from; read = λ e. all.read; same = all.same; sent = all.sent }
terminal_gives scopes.All span depth (node section kind children) w through =
    let all = opened_gives (all_reach kind) top depth (node section kind children) through in
    record { from = all.from; read = λ e. all.read; same = all.same; sent = all.sent }

-- where the block alone is asked for, only the block is told
pub terminal_alone : (scope : Scope) (span : Option SpanParts) (t : Dag) → IsAloneAt scope (terminal (opened_terminal scope span t))
terminal_alone scopes.Block span (unopened cid) = tt
terminal_alone scopes.Block span (bare section fault) = tt
terminal_alone scopes.Block span (node section kind children) = tt
terminal_alone scopes.Entity span t = tt
terminal_alone scopes.All span t = tt

-- where a walk with no segment left ends
abbrev pub at_end : Dag → PathWalk
at_end t = record { sections = []; end = terminal t }

-- a path that ends at the terminal ends at what is opened of it
pub terminal_reached : (scope : Scope) (span : Option SpanParts) (i depth : ℕ) (position : Position) (t : Dag) → IsWhole t
    → walk_from i position depth [] (opened_terminal scope span t) ≡ at_end (opened_terminal scope span t)
terminal_reached scope span i depth position (unopened cid) w = absurd w
terminal_reached scope span i depth position (bare section fault) w = absurd w
terminal_reached scopes.Block span i depth position (node section kind children) w = refl
terminal_reached scopes.Entity span i depth position (node section kind children) w = refl
terminal_reached scopes.All span i depth position (node section kind children) w = refl

-- the listing is asked for of both or of none
pub terminal_listed : (scope : Scope) (span : Option SpanParts) (t : Dag) → is_listed scope (opened_terminal scope span t) ≡ is_listed scope t
terminal_listed scopes.Block span t = refl
terminal_listed scopes.Entity span (unopened cid) = refl
terminal_listed scopes.Entity span (bare section fault) = refl
terminal_listed scopes.Entity span (node section kind children) = refl
terminal_listed scopes.All span t = refl
