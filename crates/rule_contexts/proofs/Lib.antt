mod RuleTables
mod UserRows
mod StepTables
mod ReadTables
mod SameContexts
