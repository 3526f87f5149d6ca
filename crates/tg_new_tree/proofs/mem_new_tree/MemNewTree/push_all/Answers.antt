use Rattle.std.proofs.Common.{◌≡◌, ◌∙◌, ◌+◌, ◌-◌, ap, arith, length, option_map, refl, string_bytes, sym}
use Rattle.std.proofs.lemmas.Result.{on_ok_weaker}
use Rattle.std.specs.Vec.{vec_len}
use Rattle.tg_new_tree.proofs.MadeLists.{added_in_place}
use Rattle.tg_new_tree.proofs.mem_new_tree.MemNewTree.push_all.Goals as goal
use Rattle.tg_new_tree.proofs.mem_new_tree.MemNewTree.push_all.Goals.{in-Some, in-None}

pub returns-clause-added : goal.returns-clause-added
returns-clause-added c =
    let made = c.self.inside.made in
    elim c.match-last_mut.branch [
      | in-Some w ↦
          let is : vec_len made - 1 + 1 ≡ length made.items = omega (arith, made.ok.0, w.in-Some.ensures.variant.0 refl) in
          let place : option_map string_bytes c.match-last_mut.self-inside.top ≡ c.args.self.now.place = ap (λ t. option_map string_bytes t.top) w.self-inside-is ∙ ap (λ t. t.place) c.self.view_is in
          rw w.result-is (on_ok_weaker w.push_all.result (added_in_place made.items (vec_len made - 1) _ _ w.push_all.new.self _ is w.in-Some.ensures.value (ap (λ t. t.made) (sym c.self.view_is)) (ap (λ t. t.made.items) w.self-inside-is) place) w.push_all.ensures.added)
      | in-None w ↦ rw w.result-is tt
    ]
