-- The places of a finding's cuts.
use Rattle.std.proofs.Common.{◌≡◌, ℕ, ◌/◌, ◌<◌, ◌≤◌, [], length, All, sym, ap, subst, arith}
use Rattle.std.proofs.lemmas.List.{length-map}
use Rattle.std.proofs.lemmas.List.Elements.{All-get_or}
use Rattle.std.proofs.lemmas.Nat.{div_below, mul-le}
use Rattle.hub_spec.specs.Limits.{most_nodes, most_cuts}
use Rattle.cut_pool.specs.Kept.{by_set, KeptList, kept_cut, IsKeptFor}
use Rattle.cut_pool.specs.declared.found.Found.{Found}
use Rattle.proof_text.specs.Certificates.{CanBeStated}
use Rattle.proof_text.specs.Places.{AreLines, place_count, cut_of}
use Rattle.proof_text.specs.declared.places.CutLines.{CutLines}
use Rattle.proof_text.proofs.FoundLines.{same_place}

-- the cut of a place is there
pub cut_there : (l : CutLines) (t : ℕ) → AreLines l → t < place_count l → t / l.tables.now.size < length l.cuts.now.cuts
cut_there l t are below = div_below t l.tables.now.size (length l.cuts.now.cuts) are.some below

-- and it fits
pub cut_fits : (l : CutLines) (t : ℕ) → AreLines l → t < place_count l → IsKeptFor l.tables.now (cut_of l t)
cut_fits l t are below =
    let p = l.tables.now in
    let cuts = l.cuts.now.cuts in
    let place = t / p.size in
    subst (IsKeptFor p) (sym (same_place cuts place)) (All-get_or (IsKeptFor p) cuts place (by_set [] []) (cut_there l t are below) are.fit)

-- there are far fewer than 2^64 places
pub few_places : (l : CutLines) → AreLines l → place_count l ≤ 13421772800
few_places l are = mul-le (length l.cuts.now.cuts) l.tables.now.size most_cuts most_nodes are.few are.small

-- the cuts of a finding are such
pub cuts_found : (l : CutLines) (found : Found) → CanBeStated l.tables.now found → l.cuts.now ≡ found.cuts → AreLines l
cuts_found l found h same =
    let p = l.tables.now in
    let range = h.in_range in
    let cuts : l.cuts.now.cuts ≡ found.cuts.cuts = ap (λ (k : KeptList). k.cuts) same in
    let many : length l.cuts.now.cuts ≡ length found.cuts.cuts = ap length cuts in
    record {
      some = range.some_node;
      small = range.size;
      few = omega (arith, many, range.cut_count, length-map found.cuts.cuts (kept_cut p));
      fit = subst (All (IsKeptFor p)) (sym cuts) h.fit;
    }
