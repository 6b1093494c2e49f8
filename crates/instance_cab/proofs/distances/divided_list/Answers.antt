use Rattle.std.proofs.Common.{◌≡◌, ℕ, ◌++◌, ◌∷◌, [], pos, map, length, get_or, slice_index, sym, ap, ◌∙◌, arith, rules}
use Rattle.std.specs.List.{range_with_len}
use Rattle.std.proofs.lemmas.List.{get_or-map, length-map}
use Rattle.std.proofs.lemmas.Grind.{common_steps}
use Rattle.file_spec.specs.Files.{divided_distance}
use Rattle.hub_model.specs.Amounts.{natural}
use Rattle.token_reader.proofs.Formulas.{amount_push, listed_push}
use Rattle.instance_cab.specs.Matrices.{divided_list}
use Rattle.instance_cab.proofs.distances.divided_list.Goals as goal

pub loop-place-preserved : goal.loop-place-preserved
loop-place-preserved c =
    let place = c.loop-place.place in
    let read = c.args.read.now in
    let distance = c.divided_distance-distance.result in
    let f = λ (s : ℕ). divided_distance c.args.divide c.args.n s (slice_index (map natural read) s) in
    let amount : c.unsigned_small.result ≡ natural (get_or read place (pos 0)) = grind (arith, common_steps) in
    let here : c.unsigned_small.result ≡ slice_index (map natural read) place =
    amount ∙ sym (get_or-map natural read place (pos 0) 0 (omega arith)) in
    let pushed : c.push.new.self.items ≡ c.loop-place.distances.items ++ pos distance ∷ [] = search rules in
    record {
      values = amount_push f place distance _ _ pushed
          (c.divided_distance-distance.ensures ∙ ap (divided_distance c.args.divide c.args.n place) here) c.loop-place.invariant.values;
      limits = listed_push distance _ _ pushed (omega arith) c.loop-place.invariant.limits;
    }

pub returns : goal.returns
unfolding divided_list
returns c =
    let read = c.args.read.now in
    let f = λ (s : ℕ). divided_distance c.args.divide c.args.n s (slice_index (map natural read) s) in
    let all : c.loop-place.place ≡ length (map natural read) = omega (arith, length-map read natural) in
    c.from_vec.ensures ∙ (c.loop-place.invariant.values ∙ ap (λ m. map f (range_with_len 0 m)) all)
