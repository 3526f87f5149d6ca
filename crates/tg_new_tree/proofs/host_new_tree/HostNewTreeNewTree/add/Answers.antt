use Rattle.std.proofs.Common.{◌≡◌, ◌∙◌, ap, option_map, string_bytes, take}
use Rattle.tg_new_tree.proofs.MadeLists.{added_to_last, open_last, still_open}
use Rattle.tg_new_tree.specs.Noted.{EndsWithFile, added_last}
use Rattle.tg_new_tree.proofs.host_new_tree.HostNewTreeNewTree.add.Goals as goal
use Rattle.tg_new_tree.proofs.host_new_tree.HostNewTreeNewTree.add.Goals.{in-Some, in-None}

pub invariant_of-self : goal.invariant_of-self
invariant_of-self g c =
    let old = c.self.inside.noted.made in
    let bytes = take c.in-Ok.n c.args.bytes.now in
    let ends : EndsWithFile old = elim c.match-self.branch [ in-Some w ↦ open_last c.self.inside.file w.in-Some.file old w.in-Some.is c.self.invariant | in-None w ↦ absurd (let put = w.put-is in cc) ] in
    let same : c.match-self.self-inside.noted.made ≡ old = elim c.match-self.branch [ in-Some w ↦ ap (λ t. t.noted.made) w.self-inside-is | in-None w ↦ ap (λ t. t.noted.made) w.self-inside-is ] in
    still_open c.match-self.self-inside.file old c.of-self-inside.result.made bytes ends (c.of-self-inside.ensures ∙ ap (λ made. added_last made bytes) same)

pub returns-in-Ok-clause-added : goal.returns-in-Ok-clause-added
returns-in-Ok-clause-added g c =
    let old = c.self.inside.noted.made in
    let bytes = take c.in-Ok.n c.args.bytes.now in
    let ends : EndsWithFile old = elim c.match-self.branch [ in-Some w ↦ open_last c.self.inside.file w.in-Some.file old w.in-Some.is c.self.invariant | in-None w ↦ absurd (let put = w.put-is in cc) ] in
    let same : c.match-self.self-inside.noted.made ≡ old = elim c.match-self.branch [ in-Some w ↦ ap (λ t. t.noted.made) w.self-inside-is | in-None w ↦ ap (λ t. t.noted.made) w.self-inside-is ] in
    let place : option_map string_bytes c.match-self.self-inside.top ≡ option_map string_bytes c.self.inside.top = elim c.match-self.branch [ in-Some w ↦ ap (λ t. option_map string_bytes t.top) w.self-inside-is | in-None w ↦ ap (λ t. option_map string_bytes t.top) w.self-inside-is ] in
    let made_old : old ≡ c.args.self.now.made = ap (λ t. t.made) c.self.view_is in
    added_to_last bytes _ old made_old ends (c.of-self-inside.ensures ∙ ap (λ made. added_last made bytes) same) (place ∙ ap (λ t. t.place) c.self.view_is)
