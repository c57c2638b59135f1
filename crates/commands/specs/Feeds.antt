-- Which commands a program takes.
use Rattle.std.specs.Prelude.{Bool, true}
use Rattle.commands.specs.declared.command.Command.{Command}
use Rattle.commands.specs.declared.command.Command.TheVariants.{Series, Notice, Quote, Level, Enter, Phase, Cancel, Work, Sweep, Net}
use Rattle.commands.specs.declared.command.Feed.{Feed}

abbrev pub takes : Feed → Command → Bool
takes f (Series x) = true
takes f (Notice x) = true
takes f (Quote x) = f.quotes
takes f (Level x) = f.levels
takes f (Enter x) = true
takes f (Phase b) = true
takes f (Cancel n) = true
takes f (Work n) = true
takes f Sweep = true
takes f (Net l) = true
