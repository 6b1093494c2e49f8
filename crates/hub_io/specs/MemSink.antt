-- What a sink in memory takes.
use Rattle.std.specs.Prelude.{◌≤◌, ℕ, ◌+◌, All, length}
use Rattle.hub_io.specs.declared.mem_sink.MemSink.{MemSink}

-- no put on the sink is to fail any more, and it has room for so many bytes
abbrev pub TakesAll : MemSink → ℕ → Type 0
TakesAll sink count = All (λ p. p.call ≤ sink.calls) sink.failing.items × (length sink.taken.items + count ≤ sink.room)
