-- One axis of the chunks that tasks meet: this project's own.
use Rattle.std.specs.Prelude.{ℕ, ◌+◌, ◌-◌, ◌*◌, ◌/◌, min}

-- how long the chunks are together that meet the task of this number, of a side that is cut into steps and into chunks
abbrev pub hull_along : ℕ → ℕ → ℕ → ℕ → ℕ
hull_along size step chunk i = min ((min ((i + 1) * step) size - 1) / chunk * chunk + chunk) size - i * step / chunk * chunk
