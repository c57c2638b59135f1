-- Lines of a market: quotes on a board, levels on a ladder.
use Rattle.std.specs.Prelude.{ℕ, Some, None, Option, Result}
use Rattle.answers.specs.declared.answer.Answer.{Answer}
use Rattle.answers.specs.declared.answer.Answer.TheVariants as answer
use Rattle.commands.specs.declared.command.Command.{Command}
use Rattle.commands.specs.declared.command.Command.TheVariants.{Series, Notice, Quote, Level, Enter, Phase, Cancel, Work, Sweep, Net}
use Rattle.market.specs.declared.quote.Level as shown
use Rattle.market.specs.declared.quote.TwoSided.{TwoSided}
use Rattle.market.specs.declared.quote.MarketFault.{MarketFault}
use Rattle.market.specs.Levels.{Levels}
use Rattle.market.specs.declared.terms.QuoteTerms.{QuoteTerms}
use Rattle.market.specs.declared.terms.LevelTerms.{LevelTerms}
use Rattle.orders.specs.Checks.{map_ok, amount}
use Rattle.venues.specs.declared.board.Board.{Board}
use Rattle.venues.specs.declared.ladder.Ladder.{Ladder}
use Rattle.venues.specs.Boards.{board_levels}
use Rattle.venues.specs.Ladders.{ladder_levels}
use Rattle.venues.specs.Quotes.{quote_of, quote_answer, quoted_levels}
use Rattle.venues.specs.LevelCalls.{level_call, level_answer, level_after}

-- the quote that a command is, or none
abbrev pub quote_in : Command → Option QuoteTerms
quote_in (Series x) = None
quote_in (Notice x) = None
quote_in (Quote x) = Some x
quote_in (Level x) = None
quote_in (Enter x) = None
quote_in (Phase b) = None
quote_in (Cancel n) = None
quote_in (Work n) = None
quote_in Sweep = None
quote_in (Net l) = None

-- the level that a command is, or none
abbrev pub level_in : Command → Option LevelTerms
level_in (Series x) = None
level_in (Notice x) = None
level_in (Quote x) = None
level_in (Level x) = Some x
level_in (Enter x) = None
level_in (Phase b) = None
level_in (Cancel n) = None
level_in (Work n) = None
level_in Sweep = None
level_in (Net l) = None

-- The board

-- the numbers of a quote
abbrev pub quote_numbers : QuoteTerms → Result (ℕ × TwoSided shown.Level) MarketFault
quote_numbers x = quote_of 255 x

abbrev pub answer_quote : Option QuoteTerms → Option (Result Answer MarketFault)
answer_quote None = None
answer_quote (Some x) = Some (map_ok (λ _. answer.Quote (amount x.series)) (quote_answer (quote_numbers x)))

abbrev pub take_quote : Levels → Option QuoteTerms → Levels
take_quote m None = m
take_quote m (Some x) = quoted_levels m (quote_numbers x)

abbrev pub board_answer : Command → Option (Result Answer MarketFault)
board_answer c = answer_quote (quote_in c)

abbrev pub board_after : Board → Command → Levels
board_after b c = take_quote (board_levels b) (quote_in c)

-- The ladder

-- the numbers of a level
abbrev pub level_numbers : LevelTerms → Result (ℕ × shown.Level) MarketFault
level_numbers x = level_call 15 x

abbrev pub answer_level : Levels → Option LevelTerms → Option (Result Answer MarketFault)
answer_level m None = None
answer_level m (Some x) = Some (map_ok (λ _. answer.Level (amount x.series)) (level_answer m x.side (level_numbers x)))

abbrev pub take_level : Levels → Option LevelTerms → Levels
take_level m None = m
take_level m (Some x) = level_after m x.side (level_numbers x)

abbrev pub ladder_answer : Ladder → Command → Option (Result Answer MarketFault)
ladder_answer l c = answer_level (ladder_levels l) (level_in c)

abbrev pub ladder_after : Ladder → Command → Levels
ladder_after l c = take_level (ladder_levels l) (level_in c)
