-- The distances between nodes that lie at given points, each the pair of its coordinates in 10^-6.
use Rattle.std.specs.Prelude.{ℕ, ◌/◌, ◌%◌, List, length, map, ℤ, pos}
use Rattle.std.specs.List.{range_with_len}
use Rattle.std.proofs.Math.ListN.{get_or}
use Rattle.file_spec.specs.Distances.{planar_distance, gap}
use Rattle.instance_ap.specs.declared.points.Point.{Point}

-- the coordinates of a point
abbrev pub coordinates_of : Point → ℤ × ℤ
coordinates_of p = (p.x, p.y)

-- the point of a node that is none
abbrev pub origin : ℤ × ℤ
origin = (pos 0, pos 0)

-- the distance from one point to another, in 10^-3, divided and rounded down
abbrev pub distance_between : ℕ → ℤ × ℤ → ℤ × ℤ → ℕ
distance_between divide from to = planar_distance divide (gap from.0 to.0) (gap from.1 to.1)

-- the distance of the commodity number s, with n nodes at these points
abbrev pub distance_of : ℕ → ℕ → List (ℤ × ℤ) → ℕ → ℕ
distance_of divide n points s = distance_between divide (get_or points (s / n) origin) (get_or points (s % n) origin)

-- the distances of the first m commodities
unfoldable pub distances_front : ℕ → ℕ → List (ℤ × ℤ) → ℕ → List ℕ
distances_front divide n points m = map (distance_of divide n points) (range_with_len 0 m)

-- the distance of the commodity number s, with a node at each of these points
abbrev pub distance_at : ℕ → List Point → ℕ → ℕ
distance_at divide points s = distance_of divide (length points) (map coordinates_of points) s

-- the distances of the first m commodities, with a node at each of these points
abbrev pub first_distances : ℕ → List Point → ℕ → List ℕ
first_distances divide points m = distances_front divide (length points) (map coordinates_of points) m
