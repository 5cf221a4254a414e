pub mod ReportLineLaws
