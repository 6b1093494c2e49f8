-- The puts that are to fail.
use Rattle.std.specs.Prelude.{ℕ, List, Option, find, option_map, ◌==◌}
use Rattle.hub_io.specs.declared.mem_sink.Partial.{Partial}

-- how many bytes are taken of the put of that number, where it is to fail
abbrev pub partial_at : List Partial → ℕ → Option ℕ
partial_at failing call = option_map (λ p. p.taken) (find (λ p. p.call == call) failing)
