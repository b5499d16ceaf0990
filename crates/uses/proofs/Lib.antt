mod ResumedRows
