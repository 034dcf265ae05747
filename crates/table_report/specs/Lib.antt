-- What the table program prints, in terms of the text that it is given.
pub mod TableReport
pub mod TableReportLaws
